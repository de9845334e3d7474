use Rattle.std.proofs.Common.{◌≡◌, ap, ◌<◌, map, arith}
use lib.Count.{count_trailing_zeros}
use lib.Lanes.{chunk, mask_l}
use Rattle.json_strings.specs.AsciiRuns.{is_special}
use Rattle.json_strings.proofs.ClearRuns.{clear_block, clear_stop, stop_within}
use Rattle.json_strings.proofs.ascii_runs.ascii_len.Goals as goal

pub returns-then-marks-ne0-clause-within : goal.returns-then-marks-ne0-clause-within
returns-then-marks-ne0-clause-within c =
    let marks = c.special_marks-marks in
    let some : 0 < mask_l (map is_special (chunk c.loop-at.at 16 c.args.text.now)) = omega (arith, marks.ensures) in
    let near = stop_within c.args.text.now c.loop-at.at (count_trailing_zeros 64 marks.result) (omega arith) some (ap (count_trailing_zeros 64) marks.ensures) in
    omega arith

pub returns-then-marks-ne0-clause-clear : goal.returns-then-marks-ne0-clause-clear
returns-then-marks-ne0-clause-clear c =
    let marks = c.special_marks-marks in
    let some : 0 < mask_l (map is_special (chunk c.loop-at.at 16 c.args.text.now)) = omega (arith, marks.ensures) in
    clear_stop c.args.text.now c.loop-at.at (count_trailing_zeros 64 marks.result) (omega arith) some (ap (count_trailing_zeros 64) marks.ensures) c.loop-at.invariant.clear

pub loop-at-preserved : goal.loop-at-preserved
loop-at-preserved c =
    let marks = c.special_marks-marks in
    let none : mask_l (map is_special (chunk c.loop-at.at 16 c.args.text.now)) ≡ 0 = omega (arith, marks.ensures) in
    record { within = omega arith; clear = clear_block c.args.text.now c.loop-at.at (omega arith) none c.loop-at.invariant.clear }
