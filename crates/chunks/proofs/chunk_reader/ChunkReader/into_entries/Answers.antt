use Rattle.std.proofs.Common.{◌≡◌, ◌∙◌, ◌<◌, sym, ap, subst, List, ◌++◌, length, Option, Some, Ok, IfSome}
use Rattle.vs_bytes.specs.declared.leaf_columns.Entry.{Entry}
use Rattle.chunks.specs.Pieces.{all_of}
use Rattle.chunks.specs.Turns.{next_of}
use Rattle.chunks.proofs.Gathered.{Gathered, nothing_yet, one_page, refusal_found}
use Rattle.chunks.proofs.chunk_reader.ChunkReader.into_entries.Goals as goal

pub loop-page-init : goal.loop-page-init
loop-page-init c = subst (λ (pages : List (List Entry)). Gathered c.args.self c.args.self (all_of pages)) (sym c.new-found.ensures.items) (nothing_yet c.args.self)

pub loop-page-preserved : goal.loop-page-preserved
loop-page-preserved c =
    let now = c.loop-page.reader in
    let next = c.next.new.self in
    let gave : next_of now ≡ Ok (Some c.in-Some.page, next) = c.in-Ok.ensures.exact ∙ ap (λ (page : Option (List Entry)). Ok (page, next)) c.in-Some.is in
    let less : length next.rest < length now.rest = subst (λ (page : Option (List Entry)). IfSome page (λ _. length next.rest < length now.rest)) c.in-Some.is c.in-Ok.ensures.more in
    let found : all_of c.keep.new.pages.items ≡ all_of c.loop-page.found.items ++ c.in-Some.page = c.in-Ok-keep.ensures in
    subst (λ (es : List Entry). Gathered c.args.self next es) (sym found) (one_page c.args.self now (all_of c.loop-page.found.items) c.loop-page.invariant next c.in-Some.page less gave)

pub returns-in-Err : goal.returns-in-Err
returns-in-Err c = record { exact = refusal_found c.args.self c.loop-page.reader (all_of c.loop-page.found.items) c.loop-page.invariant (λ entries. (entries, c.next.new.self)) c.in-Err.refusal c.in-Err.ensures.exact }
