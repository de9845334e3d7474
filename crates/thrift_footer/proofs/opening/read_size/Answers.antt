use Rattle.std.proofs.Common.{◌∙◌, sym, ◌-◌, [], ◌∷◌, arith}
use Rattle.thrift_footer.specs.Opening.{range, end_ranges}
use Rattle.thrift_footer.proofs.Asking.{Plan, asks_same, asks_given, asks_passed, asks_refused}
use Rattle.thrift_footer.proofs.Ends.{too_short, by_ends, ends_planned}
use Rattle.thrift_footer.proofs.opening.read_size.Goals as goal

pub returns-then-len-lt-LEAST_LEN-clause-exact : goal.returns-then-len-lt-LEAST_LEN-clause-exact
returns-then-len-lt-LEAST_LEN-clause-exact g c = λ file k. too_short file c.args.len (c.requires.known file k) c.if-len-lt-LEAST_LEN.true

pub returns-in-Err-clause-asks : goal.returns-in-Err-clause-asks
returns-in-Err-clause-asks g c =
    let name = c.args.name.now in
    let p : Plan = λ file. range name (c.args.len - 8) 8 ∷ range name 0 4 ∷ [] in
    let q : Plan = λ file. end_ranges name c.args.len in
    asks_passed _ _ name q c.in-Err.fault (asks_same _ _ name p q _ (λ file k. ends_planned name c.args.len (omega (arith, c.if-len-lt-LEAST_LEN.false))) c.in-Err.ensures.asks)

pub returns-in-Ok-footer_size-clause-asks : goal.returns-in-Ok-footer_size-clause-asks
returns-in-Ok-footer_size-clause-asks g c =
    let name = c.args.name.now in
    let p : Plan = λ file. range name (c.args.len - 8) 8 ∷ range name 0 4 ∷ [] in
    let q : Plan = λ file. end_ranges name c.args.len in
    asks_given _ _ name q _ _ (asks_same _ _ name p q _ (λ file k. ends_planned name c.args.len (omega (arith, c.if-len-lt-LEAST_LEN.false))) c.in-Ok.ensures.asks)

pub returns-in-Ok-footer_size-clause-exact : goal.returns-in-Ok-footer_size-clause-exact
returns-in-Ok-footer_size-clause-exact g c = λ file k. sym (by_ends file _ _ c.args.len (c.requires.known file k) (omega (arith, c.if-len-lt-LEAST_LEN.false)) (c.in-Ok.ensures.front file k) (c.in-Ok.ensures.tail file k)) ∙ c.in-Ok-footer_size.ensures.exact

pub returns-in-Err-footer_size-clause-asks : goal.returns-in-Err-footer_size-clause-asks
returns-in-Err-footer_size-clause-asks g c =
    let name = c.args.name.now in
    let p : Plan = λ file. range name (c.args.len - 8) 8 ∷ range name 0 4 ∷ [] in
    let q : Plan = λ file. end_ranges name c.args.len in
    asks_refused _ _ name q _ c.in-Err-footer_size.rule (asks_same _ _ name p q _ (λ file k. ends_planned name c.args.len (omega (arith, c.if-len-lt-LEAST_LEN.false))) c.in-Ok.ensures.asks)

pub returns-in-Err-footer_size-clause-exact : goal.returns-in-Err-footer_size-clause-exact
returns-in-Err-footer_size-clause-exact g c = λ file k. sym (by_ends file _ _ c.args.len (c.requires.known file k) (omega (arith, c.if-len-lt-LEAST_LEN.false)) (c.in-Ok.ensures.front file k) (c.in-Ok.ensures.tail file k)) ∙ c.in-Err-footer_size.ensures.exact
