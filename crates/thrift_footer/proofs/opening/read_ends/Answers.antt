use Rattle.std.proofs.Common.{◌∙◌, ap, ℕ, ◌-◌, [], ◌∷◌, length, Ok, Err}
use Rattle.vs_bytes.specs.Numbers.{part}
use Rattle.thrift_footer.specs.Opening.{range}
use Rattle.thrift_footer.proofs.Asking.{Plan, asks_same, asks_less, asks_then, file_stays, read_there}
use Rattle.thrift_footer.proofs.opening.read_ends.Goals as goal

pub returns-in-Err-clause-asks : goal.returns-in-Err-clause-asks
returns-in-Err-clause-asks g c =
    let name = c.args.name.now in
    let at = c.args.len - 8 in
    let p : Plan = λ file. range name at 8 ∷ [] in
    let q : Plan = λ file. range name 0 4 ∷ [] in
    let own = asks_same _ _ name (λ file. range name at (length c.args.tail.now) ∷ []) p _ (λ file k. ap (λ (n : ℕ). range name at n ∷ []) c.requires.last) c.in-Err.ensures.asks in
    asks_less _ _ name p q c.in-Err.fault c.in-Err.ensures.read own

pub returns-in-Ok-read_range-clause-asks : goal.returns-in-Ok-read_range-clause-asks
returns-in-Ok-read_range-clause-asks g c =
    let name = c.args.name.now in
    let at = c.args.len - 8 in
    let p : Plan = λ file. range name at 8 ∷ [] in
    let q : Plan = λ file. range name 0 4 ∷ [] in
    let one = asks_same _ _ name (λ file. range name at (length c.args.tail.now) ∷ []) p _ (λ file k. ap (λ (n : ℕ). range name at n ∷ []) c.requires.last) c.in-Ok.ensures.asks in
    let two = asks_same _ _ name (λ file. range name 0 (length c.args.front.now) ∷ []) q _ (λ file k. ap (λ (n : ℕ). range name 0 n ∷ []) c.requires.first) c.in-Ok-read_range.ensures.asks in
    asks_then _ _ _ name p q _ (Ok tt) tt one two

pub returns-in-Err-read_range-clause-asks : goal.returns-in-Err-read_range-clause-asks
returns-in-Err-read_range-clause-asks g c =
    let name = c.args.name.now in
    let at = c.args.len - 8 in
    let p : Plan = λ file. range name at 8 ∷ [] in
    let q : Plan = λ file. range name 0 4 ∷ [] in
    let one = asks_same _ _ name (λ file. range name at (length c.args.tail.now) ∷ []) p _ (λ file k. ap (λ (n : ℕ). range name at n ∷ []) c.requires.last) c.in-Ok.ensures.asks in
    let two = asks_same _ _ name (λ file. range name 0 (length c.args.front.now) ∷ []) q _ (λ file k. ap (λ (n : ℕ). range name 0 n ∷ []) c.requires.first) c.in-Err-read_range.ensures.asks in
    asks_then _ _ _ name p q _ (Err c.in-Err-read_range.fault) (read_there c.in-Err-read_range.fault c.in-Err-read_range.ensures.read) one two

pub returns-in-Ok-read_range-clause-front : goal.returns-in-Ok-read_range-clause-front
returns-in-Ok-read_range-clause-front g c = λ file k. c.in-Ok-read_range.ensures.bytes file (file_stays _ _ c.args.name.now _ _ file c.in-Ok.ensures.asks k) ∙ ap (λ (n : ℕ). part file 0 n) c.requires.first
