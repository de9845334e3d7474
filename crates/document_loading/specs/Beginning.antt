-- No documents are taken where nothing changed: stands here for a law of a trait, which takes no lemma of proofs/.
use Rattle.std.specs.Prelude.{List, ℕ, [], ◌++◌, Option, refl}
use Rattle.std.proofs.Common.{ap, sym, subst, append-nil}
use Rattle.json_tree.specs.Json.{Json}
use Rattle.shelf.specs.Storage.{Storage}
use Rattle.shelf.proofs.Appending.{appended_none}
use Rattle.store_write.specs.Writers.{Stands, name_of}
use Rattle.store_write.specs.declared.file_writer.FileWriter.{FileWriter}
use Rattle.document_loading.specs.Taken.{TookIf}

pub takes_nothing : (s : Storage) (w : FileWriter) → TookIf s w [] w s
takes_nothing s w = λ has. record {
  more = [];
  grown = ap (λ files. record s { files = files }) (sym (appended_none s.files (name_of w) has));
  keeps = record { name = refl; node = refl; settings = refl };
  stands = λ bytes rows st. subst (λ (bs : List ℕ). Stands w bs (rows ++ [])) (sym (append-nil bytes)) (subst (λ (rs : List (Option Json)). Stands w bytes rs) (sym (append-nil rows)) st);
}
