-- Lemmas on the answer that is gathered of documents, and on what is written of it.
use Rattle.std.proofs.Common.{◌≡◌, ◌∙◌, ℕ, List, [], ◌∷◌, ◌++◌, refl, sym, ap, subst, Result, Ok, Err, append_assoc, append-nil}
use Rattle.outside.specs.Output.{Output, output_of, Sends, Breaks, Puts}
use Rattle.outside.specs.declared.sink.SinkError.{SinkError}
use Rattle.outside.proofs.Sending.{sends_then, sends_breaks, puts_gathered}
use Rattle.json_tree.specs.Json.{Json}
use Rattle.json_documents.specs.Taking.{Takes}
use Rattle.variant_store.specs.Answer.{printed, answer_over}
use Rattle.variant_store.specs.Gathering.{Gathers, GathersUpTo}
use Rattle.variant_store.specs.Stream.{Stream}
use Rattle.variant_store.specs.declared.gatherer.OutputFault.{OutputFault}
use Rattle.variant_store.specs.declared.gatherer.OutputFault.TheVariants as output

answer_append : (stream : Stream) (ds es : List Json) → answer_over stream (ds ++ es) ≡ answer_over stream ds ++ answer_over stream es
answer_append stream [] es = refl
answer_append stream (d ∷ ds) es = ap (λ (s : List ℕ). printed stream d ++ s) (answer_append stream ds es) ∙ sym (append_assoc (printed stream d) (answer_over stream ds) (answer_over stream es))

answer_more : (stream : Stream) (ds : List Json) (d : Json) → answer_over stream (ds ++ d ∷ []) ≡ answer_over stream ds ++ printed stream d
answer_more stream ds d = answer_append stream ds (d ∷ []) ∙ ap (λ (s : List ℕ). answer_over stream ds ++ s) (append-nil (printed stream d))

-- the answer of a call that writes what is pending, as that of a taker
abbrev pub taken : Result (Unit {0}) SinkError → Result (Unit {0}) OutputFault
taken (Ok u) = Ok u
taken (Err fault) = Err (output.Write fault)

-- one more document is answered, and what is pending may be written
pub takes_more : (first stream stream_now : Stream) (a b c : Output) (documents : List Json) (document : Json) (pending : List ℕ) (r : Result (Unit {0}) SinkError) → Gathers first stream a b documents → stream_now ≡ stream
    → pending ≡ b.pending ++ printed stream document → Puts (output_of b.device pending) c [] r → Takes (Gathers first stream_now a c (documents ++ document ∷ [])) (λ fault. GathersUpTo first a c documents document fault) (taken r)
takes_more first stream stream_now a b c documents document pending r g same grown puts =
    by r (puts_gathered b c (printed first document) pending r (subst (λ (s : Stream). pending ≡ b.pending ++ printed s document) g.same grown) puts)
  where
    by : (r : Result (Unit {0}) SinkError) → Puts b c (printed first document) r → Takes (Gathers first stream_now a c (documents ++ document ∷ [])) (λ fault. GathersUpTo first a c documents document fault) (taken r)
    by (Ok u) p = record {
      same = same ∙ g.same;
      sends = subst (λ (s : List ℕ). Sends a c s) (sym (answer_more first documents document)) (sends_then a b c (answer_over first documents) (printed first document) g.sends p);
    }
    by (Err fault) p = subst (λ (s : List ℕ). Breaks a c s fault) (sym (answer_more first documents document)) (sends_breaks a b c (answer_over first documents) (printed first document) fault g.sends p)
