use Rattle.std.proofs.Common.{◌∙◌, ap, ℕ, List, [], ◌∷◌, length}
use Rattle.thrift_footer.specs.Opening.{range}
use Rattle.thrift_footer.proofs.Asking.{Plan, asks_same, asks_given, asks_passed}
use Rattle.thrift_footer.proofs.opening.read_bytes.Goals as goal

pub returns-in-Ok-read_range-clause-asks : goal.returns-in-Ok-read_range-clause-asks
returns-in-Ok-read_range-clause-asks g c =
    let name = c.args.name.now in
    let at = c.args.at in
    let p : Plan = λ file. range name at c.args.size ∷ [] in
    let len = ap (λ (bytes : List ℕ). length bytes) c.as_mut_slice.ensures.value ∙ c.in-Ok.ensures in
    let own = asks_same _ _ name (λ file. range name at (length c.as_mut_slice.result.now) ∷ []) p _ (λ file k. ap (λ (n : ℕ). range name at n ∷ []) len) c.in-Ok-read_range.ensures.asks in
    asks_given _ _ name p _ _ own

pub returns-in-Err-read_range-clause-asks : goal.returns-in-Err-read_range-clause-asks
returns-in-Err-read_range-clause-asks g c =
    let name = c.args.name.now in
    let at = c.args.at in
    let p : Plan = λ file. range name at c.args.size ∷ [] in
    let len = ap (λ (bytes : List ℕ). length bytes) c.as_mut_slice.ensures.value ∙ c.in-Ok.ensures in
    let own = asks_same _ _ name (λ file. range name at (length c.as_mut_slice.result.now) ∷ []) p _ (λ file k. ap (λ (n : ℕ). range name at n ∷ []) len) c.in-Err-read_range.ensures.asks in
    asks_passed _ _ name p c.in-Err-read_range.fault own
