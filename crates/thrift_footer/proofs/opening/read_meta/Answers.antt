use Rattle.std.proofs.Common.{◌∙◌, ap, sym, ℕ, List, [], ◌∷◌}
use Rattle.footer_structs.specs.ReadFooters.{footer}
use Rattle.thrift_footer.specs.Opening.{range}
use Rattle.thrift_footer.proofs.Asking.{asks_given, asks_passed, asks_refused, asks_unheld}
use Rattle.thrift_footer.proofs.opening.read_meta.Goals as goal

pub returns-in-Err-clause-asks : goal.returns-in-Err-clause-asks
returns-in-Err-clause-asks g c = asks_passed _ _ c.args.name.now (λ file. range c.args.name.now c.args.at c.args.size ∷ []) c.in-Err.fault c.in-Err.ensures.asks

pub returns-in-Ok-read_footer-clause-asks : goal.returns-in-Ok-read_footer-clause-asks
returns-in-Ok-read_footer-clause-asks g c = asks_given _ _ c.args.name.now (λ file. range c.args.name.now c.args.at c.args.size ∷ []) _ _ c.in-Ok.ensures.asks

pub returns-in-Ok-read_footer-clause-exact : goal.returns-in-Ok-read_footer-clause-exact
returns-in-Ok-read_footer-clause-exact g c = λ file k. ap (λ (bytes : List ℕ). footer bytes) (sym (c.in-Ok.ensures.bytes file k) ∙ sym c.as_slice.ensures.value) ∙ c.in-Ok-read_footer.ensures

pub returns-in-Err-Fault-clause-asks : goal.returns-in-Err-Fault-clause-asks
returns-in-Err-Fault-clause-asks g c = asks_refused _ _ c.args.name.now (λ file. range c.args.name.now c.args.at c.args.size ∷ []) _ c.in-Err-Fault.rule c.in-Ok.ensures.asks

pub returns-in-Err-Fault-clause-exact : goal.returns-in-Err-Fault-clause-exact
returns-in-Err-Fault-clause-exact g c = λ file k.
    let refused = rw c.in-Err-Fault.field-0-is at c.in-Err-Fault.ensures in
    ap (λ (bytes : List ℕ). footer bytes) (sym (c.in-Ok.ensures.bytes file k) ∙ sym c.as_slice.ensures.value) ∙ refused

pub returns-clause-asks : goal.returns-clause-asks
returns-clause-asks g c = asks_unheld _ _ c.args.name.now (λ file. range c.args.name.now c.args.at c.args.size ∷ []) _ c.in-Ok.ensures.asks
