use Rattle.std.proofs.Common.{◌≡◌, Some, None, length, ap, subst, arith}
use Rattle.memchr.specs.Find.{IsFirstByte, is_byte}
use Rattle.json_lines.specs.Next.{State}
use Rattle.json_lines.proofs.Fronts.{line_shown, long_some, over_some, long_none, over_none, open_shown}
use Rattle.json_lines.proofs.line_reader.Lines.front.Goals as goal

pub returns-then-min-clause-shows : goal.returns-then-min-clause-shows
returns-then-min-clause-shows c =
    let room : c.self.inside.room ≡ c.args.self.now.room = ap (λ (s : State). s.room) c.self.view_is in
    let first = subst (λ (s : State). IsFirstByte (is_byte 10) s.held (Some c.in-Some.at)) c.self.view_is c.in-Some.ensures.first in
    long_some c.args.self.now c.in-Some.at first (omega arith)

pub returns-then-at-room-clause-shows : goal.returns-then-at-room-clause-shows
returns-then-at-room-clause-shows c =
    let room : c.self.inside.room ≡ c.args.self.now.room = ap (λ (s : State). s.room) c.self.view_is in
    let first = subst (λ (s : State). IsFirstByte (is_byte 10) s.held (Some c.in-Some.at)) c.self.view_is c.in-Some.ensures.first in
    line_shown c.args.self.now c.in-Some.at first (omega arith) (omega arith)

pub returns-in-Some-clause-shows : goal.returns-in-Some-clause-shows
returns-in-Some-clause-shows c =
    let room : c.self.inside.room ≡ c.args.self.now.room = ap (λ (s : State). s.room) c.self.view_is in
    let first = subst (λ (s : State). IsFirstByte (is_byte 10) s.held (Some c.in-Some.at)) c.self.view_is c.in-Some.ensures.first in
    over_some c.args.self.now c.in-Some.at first (omega arith) (omega arith)

pub returns-then-min-2-clause-shows : goal.returns-then-min-2-clause-shows
returns-then-min-2-clause-shows c =
    let room : c.self.inside.room ≡ c.args.self.now.room = ap (λ (s : State). s.room) c.self.view_is in
    let size : length c.self.inside.buffer.held ≡ length c.args.self.now.held = ap (λ (s : State). length s.held) c.self.view_is in
    let none = subst (λ (s : State). IsFirstByte (is_byte 10) s.held None) c.self.view_is c.in_default.ensures.first in
    long_none c.args.self.now none (omega arith)

pub returns-then-len-room-clause-shows : goal.returns-then-len-room-clause-shows
returns-then-len-room-clause-shows c =
    let room : c.self.inside.room ≡ c.args.self.now.room = ap (λ (s : State). s.room) c.self.view_is in
    let size : length c.self.inside.buffer.held ≡ length c.args.self.now.held = ap (λ (s : State). length s.held) c.self.view_is in
    let none = subst (λ (s : State). IsFirstByte (is_byte 10) s.held None) c.self.view_is c.in_default.ensures.first in
    over_none c.args.self.now none (omega arith) (omega arith)

pub returns-clause-shows : goal.returns-clause-shows
returns-clause-shows c =
    let room : c.self.inside.room ≡ c.args.self.now.room = ap (λ (s : State). s.room) c.self.view_is in
    let size : length c.self.inside.buffer.held ≡ length c.args.self.now.held = ap (λ (s : State). length s.held) c.self.view_is in
    let none = subst (λ (s : State). IsFirstByte (is_byte 10) s.held None) c.self.view_is c.in_default.ensures.first in
    open_shown c.args.self.now none (omega arith) (omega arith)
