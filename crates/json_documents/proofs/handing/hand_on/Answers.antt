use Rattle.std.proofs.Common.{[], refl}
use Rattle.json_documents.proofs.Calling.{input_begins, nothing_read}
use Rattle.json_documents.proofs.handing.hand_on.Goals as goal

pub returns-in-Err-clause-hands : goal.returns-in-Err-clause-hands
returns-in-Err-clause-hands g c =
    (record { documents = []; took = g.met.T.Taker.begins c.args.taker.now c.args.device.now; known = λ input e. input_begins input }, refl)

pub returns-in-Err-clause-bounded : goal.returns-in-Err-clause-bounded
returns-in-Err-clause-bounded g c = λ input e. nothing_read input _ e
