use Rattle.std.proofs.Common.{◌≡◌, ◌∙◌, ◌++◌, ℕ, [], ◌∷◌, sym, ap, refl, subst, get_or, SomeIff, IsSome, Option, Some, None, arith}
use Rattle.variant_meta.specs.Names.{place_of}
use Rattle.variant_write.specs.Coded.{ids_of}
use Rattle.variant_write.specs.Conditions.{HasName}
use Rattle.variant_write.proofs.ChosenSteps.{member_named, ids_kept, left_out, pushed}
use Rattle.variant_write.proofs.choosing.append_chosen_ids.Goals as goal
use Rattle.variant_write.proofs.choosing.append_chosen_ids.Goals.{then-kept-i+in_ok-push, else-kept-i}

some_where : (P : Type 0) (v : ℕ) (o : Option ℕ) → P → SomeIff o P v → IsSome o
some_where P v None p h = absurd (h p)
some_where P v (Some x) p h = refl

pub unwrap-requires : goal.unwrap-requires
unwrap-requires c =
    some_where _ _ c.id.result (subst (λ name. HasName c.args.dict.now name) (sym c.as_str.ensures) (member_named c.args.dict.now c.args.pairs.now c.loop-i.i c.index-pairs-i.result c.loop-i-test.true c.requires.names).0) c.id.ensures

pub loop-i-preserved : goal.loop-i-preserved
loop-i-preserved c = elim c.if-kept-i.branch [
  | then-kept-i+in_ok-push w ↦
      let names = c.args.dict.now in
      let pair = get_or c.args.pairs.now c.loop-i.i w.index-pairs-i.result in
      let id : w.unwrap.result ≡ place_of names w.as_str.result.now = (subst (λ o. SomeIff o (HasName names w.as_str.result.now) (place_of names w.as_str.result.now)) w.unwrap.ensures w.id.ensures).1 in
      let pushed : c.if-kept-i.into.items ≡ c.loop-i.into.items ++ place_of names pair.0 ∷ [] =
      rw w.into-is (pushed w.push.new.self.items c.loop-i.into.items c.loop-i.into.items w.unwrap.result (place_of names pair.0) w.in_ok-push.ensures.items refl (id ∙ ap (place_of names) w.as_str.ensures)) in
      ids_kept names c.args.kept.now c.args.pairs.now c.loop-i.i w.index-pairs-i.result (omega (arith, c.loop-i-test.true, c.requires.kept)) c.loop-i-test.true c.loop-i.into.items c.if-kept-i.into.items _ w.if-kept-i.true c.loop-i.invariant pushed
  | else-kept-i w ↦
      rw w.into-is (ap (λ fields. c.loop-i.into.items ++ ids_of c.args.dict.now fields) (left_out c.args.kept.now c.args.pairs.now c.loop-i.i (omega (arith, c.loop-i-test.true, c.requires.kept)) c.loop-i-test.true w.if-kept-i.false) ∙ c.loop-i.invariant)
]
