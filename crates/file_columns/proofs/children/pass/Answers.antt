use Rattle.std.proofs.Common.{◌≡◌, ◌∙◌, ◌<◌, ◌^◌, arith}
use Rattle.schema_elements.specs.SchemaTrees.{child_count}
use Rattle.file_columns.proofs.Passing.{passed_more}
use Rattle.file_columns.proofs.children.pass.Goals as goal

pub trees-preserved : goal.trees-preserved
trees-preserved c =
    let inside : c.from.result ≡ child_count c.in-Some.element.now = c.from.ensures ∙ c.child_count.ensures.count in
    let few : c.from.result < 2 ^ 31 = omega (arith, c.from.ensures, c.child_count.ensures.small) in
    passed_more c.args.ahead.now c.trees.rest.now c.args.count c.trees.left c.trees.leaves c.in-Some.element.now c.in-Some.behind.now c.from.result c.own_leaf-leaves.result
    c.trees.invariant c.in-Some.ensures.cases.0 c.if-left-eq0.false c.own_leaf-leaves.ensures.leaf c.own_leaf-leaves.ensures.most inside few
