use Rattle.std.proofs.Common.{◌∙◌, [], ◌∷◌, ◌++◌, inl, refl, ap}
use Rattle.json_tree.specs.View.{view}
use Rattle.json_lines.specs.Next.{State}
use Rattle.json_documents.proofs.Calling.{given_start, given_begins}
use Rattle.json_documents.proofs.handing.walk.Goals as goal

pub loop-document-init : goal.loop-document-init
loop-document-init g c = record {
  going = inl (ap (λ (s : State). s.kept) c.requires.start);
  ready = c.requires.ready;
  took = record { documents = []; took = g.met.T.Taker.begins c.args.taker.now c.args.device.now; known = λ input e. given_start input _ _ c.requires.start e };
  calm = refl;
}

pub loop-document-preserved : goal.loop-document-preserved
loop-document-preserved g c =
    let one = c.in-Ok-Some in
    let so_far = c.loop-document.invariant.took in
    let gives = rw one.field-0-is at one.ensures.gives in
    let goes_on = rw one.field-0-is at one.ensures.goes_on in
    record {
      going = goes_on.1;
      ready = c.in-Ok.ensures.goes_on;
      took = record {
        documents = so_far.documents ++ view one.document ∷ [];
        took = c.in-Ok.ensures.takes _ _ so_far.documents so_far.took;
        known = λ input e. gives input so_far.documents (so_far.known input e);
      };
      calm = one.ensures.counts ∙ c.loop-document.invariant.calm;
    }

pub returns-in-Err-pass_on-clause-hands : goal.returns-in-Err-pass_on-clause-hands
returns-in-Err-pass_on-clause-hands g c =
    let one = c.in-Ok-Some in
    let so_far = c.loop-document.invariant.took in
    let gives = rw one.field-0-is at one.ensures.gives in (
      record {
        documents = so_far.documents;
        document = view one.document;
        refused = c.in-Err-pass_on.ensures.takes _ _ so_far.documents so_far.took;
        known = λ input e. given_begins input _ _ (so_far.documents ++ view one.document ∷ []) (gives input so_far.documents (so_far.known input e));
      },
      one.ensures.counts ∙ c.loop-document.invariant.calm,
    )

pub returns-in-Ok-None-clause-hands : goal.returns-in-Ok-None-clause-hands
returns-in-Ok-None-clause-hands g c =
    let one = c.in-Ok-None in
    let so_far = c.loop-document.invariant.took in
    let gives = rw one.field-0-is at one.ensures.gives in (
      record { documents = so_far.documents; took = so_far.took; known = λ input e. gives input so_far.documents (so_far.known input e) },
      one.ensures.counts ∙ c.loop-document.invariant.calm,
    )

pub returns-in-Err-pass_on-clause-bounded : goal.returns-in-Err-pass_on-clause-bounded
returns-in-Err-pass_on-clause-bounded g c = λ input e. c.in-Ok-Some.ensures.bounded input c.loop-document.invariant.took.documents (c.loop-document.invariant.took.known input e)

pub returns-in-Ok-None-clause-bounded : goal.returns-in-Ok-None-clause-bounded
returns-in-Ok-None-clause-bounded g c = λ input e. c.in-Ok-None.ensures.bounded input c.loop-document.invariant.took.documents (c.loop-document.invariant.took.known input e)

pub returns-in-Err-clause-bounded : goal.returns-in-Err-clause-bounded
returns-in-Err-clause-bounded g c = λ input e. c.in-Err.ensures.bounded input c.loop-document.invariant.took.documents (c.loop-document.invariant.took.known input e)
