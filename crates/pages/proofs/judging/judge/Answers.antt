use Rattle.std.proofs.Common.{◌≡◌, sym, subst, Err, IfErr}
use Rattle.vs_bytes.specs.declared.leaf_columns.Phys.{Phys}
use Rattle.plain_values.specs.Plain.{front_cell, cells}
use Rattle.pages.proofs.judging.judge.Goals as goal

pub returns-in-Int32-clause-err : goal.returns-in-Int32-clause-err
returns-in-Int32-clause-err c = subst (λ (type : Phys). IfErr c.judge_integers.result (λ rule. cells (front_cell type c.args.leaf.now.prim) c.args.count c.args.bytes.now ≡ Err rule)) (sym c.in-Int32.is) c.judge_integers.ensures.err

pub returns-in-Int64-clause-err : goal.returns-in-Int64-clause-err
returns-in-Int64-clause-err c = subst (λ (type : Phys). IfErr c.judge_integers-in-Int64.result (λ rule. cells (front_cell type c.args.leaf.now.prim) c.args.count c.args.bytes.now ≡ Err rule)) (sym c.in-Int64.is) c.judge_integers-in-Int64.ensures.err
