-- Documents that a writer takes, one by one.
use Rattle.std.proofs.Common.{◌≡◌, ◌∙◌, refl, sym, ap, subst, ℕ, List, [], ◌∷◌, ◌++◌, Option, Some, Result, Ok, Err, OnOk, append_assoc, arith, true}
use Rattle.json_tree.specs.Json.{Json}
use Rattle.json_documents.specs.Taking.{Takes}
use Rattle.json_documents.specs.Documents.{IsInputValue}
use Rattle.striping_laws.specs.Rows.{CanBeRow}
use Rattle.shelf.specs.Storage.{Storage, Has, appended}
use Rattle.shelf.proofs.Appending.{appended_again, has_appended}
use Rattle.store_write.specs.Writers.{Stands, name_of}
use Rattle.store_write.specs.Steps.{Keeps, TakesRow, Pushing}
use Rattle.store_write.specs.declared.file_writer.FileWriter.{FileWriter}
use Rattle.store_write.specs.declared.write_error.WriteError.{WriteError}
use Rattle.document_loading.specs.Taken.{rows_of, Took, TookIf, RefusedIf}

keeps_then : (u v w : FileWriter) → Keeps u v → Keeps v w → Keeps u w
keeps_then u v w f g = record { name = g.name ∙ f.name; node = g.node ∙ f.node; settings = g.settings ∙ f.settings }

rows_more : (ds : List Json) (d : Json) → rows_of (ds ++ d ∷ []) ≡ rows_of ds ++ Some d ∷ []
rows_more [] d = refl
rows_more (e ∷ ds) d = ap (λ (rs : List (Option Json)). Some e ∷ rs) (rows_more ds d)

moved : Storage → List ℕ → List ℕ → Storage
moved s name more = record s { files = appended s.files name more }

took_then : (s t u : Storage) (w v x : FileWriter) (ds : List Json) (d : Json) → Took s w ds v t → TakesRow t u v x (Some d) → Took s w (ds ++ d ∷ []) x u
unfolding moved
took_then s t u w v x ds d f g = record {
  more = f.more ++ g.more;
  grown = g.grown ∙ ap (λ (name : List ℕ). moved t name g.more) f.keeps.name ∙ ap (λ (r : Storage). moved r (name_of w) g.more) f.grown ∙ ap (λ files. record s { files = files }) (appended_again s.files (name_of w) f.more g.more);
  keeps = keeps_then w v x f.keeps g.keeps;
  stands = λ bytes rows st.
      subst (λ (bs : List ℕ). Stands x bs (rows ++ rows_of (ds ++ d ∷ []))) (append_assoc bytes f.more g.more)
      (subst (λ (rs : List (Option Json)). Stands x ((bytes ++ f.more) ++ g.more) rs) (append_assoc rows (rows_of ds) (Some d ∷ []) ∙ ap (λ (rs : List (Option Json)). rows ++ rs) (sym (rows_more ds d)))
      (g.stands (bytes ++ f.more) (rows ++ rows_of ds) (f.stands bytes rows st)));
}

pub takes_row : (s t u : Storage) (w v x : FileWriter) (ds : List Json) (d : Json) (r : Result (Unit {0}) WriteError) → TookIf s w ds v t → Pushing t u v x (Some d) r
    → Takes (TookIf s w (ds ++ d ∷ []) x u) (λ fault. RefusedIf s w ds d fault u) r
takes_row s t u w v x ds d (Ok _) f g = λ has. took_then s t u w v x ds d (f has) g
takes_row s t u w v x ds d (Err fault) f g = λ has. record { before = t; writer = v; took = f has; refused = g }

-- the file stays there
pub stays : (t u : Storage) (v x : FileWriter) (row : Option Json) (r : Result (Unit {0}) WriteError) → Pushing t u v x row r → OnOk r (Has u.files (name_of x))
stays t u v x row (Ok _) g = subst (λ (name : List ℕ). Has u.files name) (sym g.keeps.name) (subst (λ (s : Storage). Has s.files (name_of v)) (sym g.grown) (has_appended t.files (name_of v) g.more))
stays t u v x row (Err fault) g = tt

-- a document of an input can be a row
pub can_be_row : (j : Json) → IsInputValue j → CanBeRow true (Some j)
can_be_row j h = (h.is_line_value.valid, omega (arith, h.short))
