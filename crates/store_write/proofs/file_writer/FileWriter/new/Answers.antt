use Rattle.std.proofs.Common.{◌∙◌, ◌^◌, ◌<◌, List, ℤ, length, true, subst, sym, ap, refl}
use Rattle.std.specs.List.{AllByRecursion}
use Rattle.shred_schema.specs.Views.{group_of}
use Rattle.schema_parsing.specs.Canonical.{schema_text}
use Rattle.schema_parsing.proofs.WrittenNodes.{schema_written}
use Rattle.thrift_structs.specs.Listed.{ListFits}
use Rattle.schema_elements.specs.ElementWriting.{ElementFits}
use Rattle.schema_elements.specs.declared.elements.SchemaElement.{SchemaElement}
use Rattle.group_writing.specs.GroupChunks.{Path}
use Rattle.open_group.specs.OpenGroups.{IsShortPath}
use Rattle.open_group.proofs.Gathers.{well_formed}
use Rattle.store_write.specs.Made.{column_name, orders_of}
use Rattle.written_columns.proofs.Fits.{schema_fits}
use Rattle.store_write.proofs.Starting.{paths_short, paths_each, orders_few, fresh_stands}
use Rattle.store_write.proofs.file_writer.FileWriter.new.Goals as goal

pub new-requires-clause-schema : goal.new-requires-clause-schema
new-requires-clause-schema c =
    let n = group_of c.args.node in
    let is = c.requires.schema in
    subst (λ (s : List SchemaElement). ListFits ElementFits s) (sym c.in_ok-schema.ensures) (schema_fits true column_name n (schema_written (schema_text n) n is) (well_formed (schema_text n) n is))

pub new-requires-clause-orders : goal.new-requires-clause-orders
new-requires-clause-orders c =
    let n = group_of c.args.node in
    subst (λ (o : List ℤ). length o < 2 ^ 32) (sym (c.in_ok-orders.ensures ∙ ap orders_of (c.as_slice.ensures ∙ c.in_ok-paths.ensures))) (orders_few n (well_formed (schema_text n) n c.requires.schema))

pub new-requires-2-clause-column : goal.new-requires-2-clause-column
new-requires-2-clause-column c =
    let n = group_of c.args.node in
    record {
      optional = refl;
      schema = c.requires.schema;
      each = ap (λ (ps : List Path). length ps) c.in_ok-paths.ensures ∙ paths_each n;
      short = subst (λ (ps : List Path). AllByRecursion IsShortPath ps) (sym c.in_ok-paths.ensures) (paths_short n (well_formed (schema_text n) n c.requires.schema));
    }

pub returns-clause-stands : goal.returns-clause-stands
returns-clause-stands c =
    record {
      whole = refl;
      stands = fresh_stands (record { optional = true; node = c.args.node }) c.args.settings c.in_ok-schema.schema c.in_ok-orders.orders c.in_ok-paths.paths c.in_ok-open.open c.in_ok-closed.closed
          c.in_ok-open.ensures c.in_ok-closed.ensures c.in_ok-schema.ensures (c.in_ok-orders.ensures ∙ ap orders_of (c.as_slice.ensures ∙ c.in_ok-paths.ensures)) c.in_ok-paths.ensures;
    }
