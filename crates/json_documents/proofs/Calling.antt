-- What a call of the reader of lines says of the documents.
use Rattle.std.proofs.Common.{◌≡◌, ◌∙◌, ℕ, ◌+◌, ◌≤◌, List, [], ◌∷◌, ◌++◌, Option, Some, Result, Ok, Err, inl, inr, length, refl, sym, ap, subst, arith, append_assoc, append-nil, length-append}
use Rattle.outside.specs.Devices.{Device}
use Rattle.json_tree.specs.Json.{Json}
use Rattle.json_lines.specs.Cut.{Lines, none, lines_of, first_line, found_end, found_line}
use Rattle.json_lines.specs.Next.{Kept, State, nothing, ended, found, Repeats, IsKept, LeavesLess, Counted}
use Rattle.json_lines.specs.Takings.{TookFrom, TookLast, Comes, IsBounded}
use Rattle.json_lines.specs.declared.answer.Next.{Next}
use Rattle.json_lines.specs.declared.answer.Next.TheVariants as next
use Rattle.json_lines.specs.declared.answer.LineFault.{LineFault}
use Rattle.json_lines.specs.declared.answer.LineFault.TheVariants as reading
use Rattle.json_lines.proofs.Cutting.{no_lines}
use Rattle.json_lines.proofs.Taking.{whole_both}
use Rattle.exact_json.specs.Meaning.{Spells, IsFirstFault}
use Rattle.exact_json.specs.declared.fault.DocFault.{DocFault}
use Rattle.exact_json.specs.declared.fault.DocFault.TheVariants.{LineTooLong}
use Rattle.json_documents.specs.Documents.{Ending, at_end, at_line, at_limit, Walks, HasDocuments, max_input}
use Rattle.json_documents.specs.Input.{Begins, GivesAll, GivesRead, Stops, IsWithinLimit}
use Rattle.json_documents.specs.Call.{Call}
use Rattle.json_documents.specs.Given.{at_start, IsGoing, GivenOpen, GivenLast, Given, ReadsLine}
use Rattle.json_documents.specs.declared.faults.InputFault.{InputFault}
use Rattle.json_documents.specs.declared.faults.InputFault.TheVariants as fault
use Rattle.json_documents.proofs.Walks.{walk_document, walk_faulty, walk_long, walk_end, walk_over, walked}

pub called : (s t : State) (before after : Device) (r : Result Next LineFault) → Repeats s.kept r → ((s.kept ≡ nothing → ⊥) → after ≡ before) → IsKept s.kept t.kept r
    → (s.kept ≡ nothing → (rest : List ℕ) → before.bytes ≡ Some rest → Comes s rest t after.bytes r) → ((rest : List ℕ) → before.bytes ≡ Some rest → IsBounded s rest after.bytes) → LeavesLess s t r
    → (s.kept ≡ nothing → Counted before after r) → Call s t before after r
called s t before after r again untouched keeps comes bounded less counts =
    record { again = again; untouched = untouched; keeps = keeps; comes = comes; bounded = bounded; less = less; counts = counts }

not_open : (k : Kept) → k ≡ ended → k ≡ nothing → ⊥
not_open k e f = cc

again_end : (k : Kept) (r : Result Next LineFault) → k ≡ ended → Repeats k r → r ≡ Ok next.End
again_end k r e h = subst (λ (l : Kept). Repeats l r) e h

-- ---- what was given so far

has_at : (given tail : List ℕ) (ds more : List Json) (ending : Ending) (input : List ℕ) (es : List Json) → given ++ tail ≡ input → ds ++ more ≡ es → HasDocuments (given ++ tail) (ds ++ more) ending → HasDocuments input es ending
has_at given tail ds more ending input es e f h = subst (λ (i : List ℕ). HasDocuments i es ending) e (subst (λ (l : List Json). HasDocuments (given ++ tail) l ending) f h)

module _ (input : List ℕ) (left : Option (List ℕ)) (s : State) (ds : List Json) (g : GivenOpen input left s ds) where
  -- the documents ahead end those of the input
  open_has : (more : List Json) (ending : Ending) → Walks (lines_of s.room (s.held ++ g.rest)) s.number more ending → HasDocuments input (ds ++ more) ending
  open_has more ending w = has_at g.given (s.held ++ g.rest) ds more ending input (ds ++ more) (sym g.splits) refl (g.ahead (s.held ++ g.rest) more ending w)

  open_none : (ending : Ending) → Walks (lines_of s.room (s.held ++ g.rest)) s.number [] ending → HasDocuments input ds ending
  open_none ending w = subst (λ (l : List Json). HasDocuments input l ending) (append-nil ds) (open_has [] ending w)

  open_begins : Begins input ds
  open_begins = let w = walked (lines_of s.room (s.held ++ g.rest)) s.number in (w.documents, w.ending, open_has w.documents w.ending w.walks)

  open_within : (new : Option (List ℕ)) → IsBounded s g.rest new → IsWithinLimit input new
  open_within new b =
      let held : s.held ++ g.rest ≡ (s.held ++ b.read) ++ b.after = ap (λ (l : List ℕ). s.held ++ l) b.reads ∙ sym (append_assoc s.held b.read b.after) in
      record {
        read = g.given ++ (s.held ++ b.read);
        after = b.after;
        is_left = b.is_left;
        reads = g.splits ∙ ap (λ (l : List ℕ). g.given ++ l) held ∙ sym (append_assoc g.given (s.held ++ b.read) b.after);
        most = omega (arith, g.counts, b.most, length-append g.given (s.held ++ b.read), length-append s.held b.read);
      }

  -- where nothing is left, no more bytes came than that
  open_size : (new : Option (List ℕ)) → new ≡ Some [] → IsBounded s g.rest new → length input ≤ max_input + 1
  open_size new e b =
      let within = open_within new b in
      let is : new ≡ Some within.after = within.is_left in
      let none : within.after ≡ [] = cc in
      omega (arith, within.most, ap length within.reads, ap length none, length-append within.read within.after)

last_begins : (input : List ℕ) (left : Option (List ℕ)) (ds : List Json) → GivenLast input left ds → Begins input ds
last_begins input left ds g = ([], at_end, subst (λ (l : List Json). HasDocuments input l at_end) (sym (append-nil ds)) g.all.0)

pub given_begins : (input : List ℕ) (left : Option (List ℕ)) (s : State) (ds : List Json) → Given input left s ds → Begins input ds
given_begins input left s ds g = elim g [ inl o ↦ open_begins input left s ds o.1 | inr l ↦ last_begins input left ds l.1 ]

pub input_begins : (input : List ℕ) → Begins input []
input_begins input = let w = walked (lines_of max_input input) 0 in (w.documents, w.ending, w.walks)

pub nothing_read : (input : List ℕ) (left : Option (List ℕ)) → left ≡ Some input → IsWithinLimit input left
nothing_read input left e = record { read = []; after = input; is_left = e; reads = refl; most = omega arith }

pub limit_sizes : (input : List ℕ) (left : Option (List ℕ)) → IsWithinLimit input left → (after : List ℕ) → left ≡ Some after → length input ≤ max_input + 1 + length after
limit_sizes input left w after e =
    let is : left ≡ Some w.after = w.is_left in
    let same : w.after ≡ after = cc in
    omega (arith, w.most, ap length w.reads, ap length same, length-append w.read w.after)

pub given_start : (input : List ℕ) (left : Option (List ℕ)) (s : State) → s ≡ at_start → left ≡ Some input → Given input left s []
given_start input left s e f = inl (
  ap (λ (t : State). t.kept) e,
  record {
    given = [];
    rest = input;
    is_left = f;
    splits = ap (λ (t : State). t.held ++ input) (sym e);
    counts = ap (λ (t : State). t.room + 0) (sym e);
    whole = inl refl;
    ahead = λ tail more ending w. subst (λ (t : State). Walks (lines_of t.room tail) t.number more ending) e w;
  },
)

-- ---- a line

module _ (s t : State) (before after : Device) (n : ℕ) (bytes : List ℕ) (c : Call s t before after (Ok (next.Line n bytes))) where
  no_end : s.kept ≡ ended → ⊥
  no_end e = let f : Ok (next.Line n bytes) ≡ Ok next.End = again_end s.kept (Ok (next.Line n bytes)) e c.again in cc

  line_taken : (input : List ℕ) (ds : List Json) (json : Json) (g : GivenOpen input before.bytes s ds) → s.kept ≡ nothing → Spells bytes json → TookFrom s g.rest t after.bytes n bytes → Given input after.bytes t (ds ++ json ∷ [])
  line_taken input ds json g e spells k =
      let took = k.took in
      let all : input ≡ (g.given ++ took.taken) ++ (t.held ++ k.after) = g.splits ∙ ap (λ (l : List ℕ). g.given ++ l) took.splits ∙ sym (append_assoc g.given took.taken (t.held ++ k.after)) in
      inl (
        took.kept ∙ e,
        record {
          given = g.given ++ took.taken;
          rest = k.after;
          is_left = k.is_left;
          splits = all;
          counts = omega (arith, g.counts, took.counts, length-append g.given took.taken);
          whole = whole_both g.given took.taken g.whole took.whole;
          ahead = λ tail more ending w.
              let named : Walks (lines_of t.room tail) n more ending = subst (λ (m : ℕ). Walks (lines_of t.room tail) m more ending) took.number w in
              let step = walk_document (lines_of s.room (took.taken ++ tail)) s.number n bytes (lines_of t.room tail) json more ending (took.gives tail) spells named in
              has_at g.given (took.taken ++ tail) ds (json ∷ more) ending ((g.given ++ took.taken) ++ tail) ((ds ++ json ∷ []) ++ more) (sym (append_assoc g.given took.taken tail)) (sym (append_assoc ds (json ∷ []) more))
              (g.ahead (took.taken ++ tail) (json ∷ more) ending step);
        },
      )

  line_last : (input : List ℕ) (ds : List Json) (json : Json) (g : GivenOpen input before.bytes s ds) → Spells bytes json → TookLast s g.rest t after.bytes n bytes → Given input after.bytes t (ds ++ json ∷ [])
  line_last input ds json g spells k =
      let step = walk_document (lines_of s.room (s.held ++ g.rest)) s.number n bytes none json [] at_end k.gives spells (refl, refl) in
      inr (
        k.kept,
        record {
          all = (open_has input before.bytes s ds g (json ∷ []) at_end step, k.at_end);
          size = open_size input before.bytes s ds g after.bytes k.at_end (c.bounded g.rest g.is_left);
        },
      )

  pub line_given : (input : List ℕ) (ds : List Json) (json : Json) → Given input before.bytes s ds → Spells bytes json → Given input after.bytes t (ds ++ json ∷ [])
  line_given input ds json g spells =
      elim g [
        | inl o ↦
            elim (c.comes o.0 o.1.rest o.1.is_left) [
              | inl k ↦ line_taken input ds json o.1 o.0 spells k
              | inr k ↦ line_last input ds json o.1 spells k
            ]
        | inr l ↦ absurd (no_end l.0)
      ]

  line_found : (rest : List ℕ) → Comes s rest t after.bytes (Ok (next.Line n bytes)) → (behind : Lines) × (found s rest ≡ found_line n bytes behind)
  line_found rest k =
      elim k [
        | inl f ↦ (lines_of t.room (t.held ++ f.after), ap (λ (l : List ℕ). first_line s.number (lines_of s.room l)) f.took.splits ∙ f.took.gives (t.held ++ f.after))
        | inr f ↦ (none, f.gives)
      ]

  pub line_faulty : (input : List ℕ) (ds : List Json) (why : DocFault) → Given input before.bytes s ds → IsFirstFault bytes why → HasDocuments input ds (at_line n why)
  line_faulty input ds why g first =
      elim g [
        | inl o ↦
            let f = line_found o.1.rest (c.comes o.0 o.1.rest o.1.is_left) in
            open_none input before.bytes s ds o.1 (at_line n why) (walk_faulty (lines_of s.room (s.held ++ o.1.rest)) s.number n bytes f.0 why f.1 first)
        | inr l ↦ absurd (no_end l.0)
      ]

-- a line was read, or has a fault
pub line_stops : (s t : State) (before after : Device) (n : ℕ) (bytes : List ℕ) (why : InputFault) (input : List ℕ) (ds : List Json) → Call s t before after (Ok (next.Line n bytes)) → Given input before.bytes s ds
    → ReadsLine n bytes (Err why) → Stops input after.bytes ds why
line_stops s t before after n bytes (fault.BadLine m why) input ds c g r =
    subst (λ (k : ℕ). HasDocuments input ds (at_line k why)) (sym r.0) (line_faulty s t before after n bytes c input ds why g r.1)
line_stops s t before after n bytes fault.InputTooLong input ds c g r = absurd r
line_stops s t before after n bytes fault.ReadFault input ds c g r = absurd r
line_stops s t before after n bytes fault.NoMemory input ds c g r = given_begins input before.bytes s ds g

-- ---- the other answers

module _ (s t : State) (before after : Device) where
  pub long_stops : (n : ℕ) (input : List ℕ) (ds : List Json) → Call s t before after (Ok (next.TooLong n)) → Given input before.bytes s ds → HasDocuments input ds (at_line n LineTooLong)
  long_stops n input ds c g =
      elim g [
        | inl o ↦ open_none input before.bytes s ds o.1 (at_line n LineTooLong) (walk_long (lines_of s.room (s.held ++ o.1.rest)) s.number n (c.comes o.0 o.1.rest o.1.is_left).0)
        | inr l ↦ let f : Ok (next.TooLong n) ≡ Ok next.End = again_end s.kept (Ok (next.TooLong n)) l.0 c.again in cc
      ]

  pub end_gives : (input : List ℕ) (ds : List Json) → Call s t before after (Ok next.End) → Given input before.bytes s ds → GivesAll input after.bytes ds
  end_gives input ds c g =
      elim g [
        | inl o ↦ let k = c.comes o.0 o.1.rest o.1.is_left in (open_none input before.bytes s ds o.1 at_end (walk_end (lines_of s.room (s.held ++ o.1.rest)) s.number k.0), k.1)
        | inr l ↦ subst (λ (d : Device). GivesAll input d.bytes ds) (sym (c.untouched (not_open s.kept l.0))) l.1.all
      ]

  pub over_stops : (input : List ℕ) (ds : List Json) → Call s t before after (Err reading.InputTooLong) → Given input before.bytes s ds → HasDocuments input ds at_limit
  over_stops input ds c g =
      elim g [
        | inl o ↦ open_none input before.bytes s ds o.1 at_limit (walk_over (lines_of s.room (s.held ++ o.1.rest)) s.number (c.comes o.0 o.1.rest o.1.is_left).0)
        | inr l ↦ let f : Err reading.InputTooLong ≡ Ok next.End = again_end s.kept (Err reading.InputTooLong) l.0 c.again in cc
      ]

  read_open : (input : List ℕ) (ds : List Json) (g : GivenOpen input before.bytes s ds) → Comes s g.rest t after.bytes (Err reading.ReadFault) → GivesRead input after.bytes ds
  read_open input ds g k =
      let p = k.2.passed in
      let found_is : first_line s.number (lines_of s.room (p.taken ++ [])) ≡ found_end = sym (p.alike []) ∙ ap (first_line t.number) (no_lines t.room) in
      let whole = g.ahead (p.taken ++ []) [] at_end (walk_end (lines_of s.room (p.taken ++ [])) s.number found_is) in
      record {
        given = g.given ++ p.taken;
        held = t.held;
        rest = k.2.after;
        is_left = k.2.is_left;
        splits = g.splits ∙ ap (λ (l : List ℕ). g.given ++ l) p.splits ∙ sym (append_assoc g.given p.taken (t.held ++ k.2.after));
        whole = whole_both g.given p.taken g.whole p.whole;
        no_lf = k.0;
        has = has_at g.given (p.taken ++ []) ds [] at_end (g.given ++ p.taken) ds (ap (λ (l : List ℕ). g.given ++ l) (append-nil p.taken)) (append-nil ds) whole;
        begins = open_begins input before.bytes s ds g;
      }

  pub read_stops : (input : List ℕ) (ds : List Json) → Call s t before after (Err reading.ReadFault) → Given input before.bytes s ds → GivesRead input after.bytes ds
  read_stops input ds c g =
      elim g [
        | inl o ↦ read_open input ds o.1 (c.comes o.0 o.1.rest o.1.is_left)
        | inr l ↦ let f : Err reading.ReadFault ≡ Ok next.End = again_end s.kept (Err reading.ReadFault) l.0 c.again in cc
      ]

  last_within : {input : List ℕ} {ds : List Json} → after ≡ before → GivenLast input before.bytes ds → IsWithinLimit input after.bytes
  last_within {input} {ds} same g = record {
    read = input;
    after = [];
    is_left = ap (λ (d : Device). d.bytes) same ∙ g.all.1;
    reads = sym (append-nil input);
    most = g.size;
  }

  pub within_limit : (r : Result Next LineFault) (input : List ℕ) (ds : List Json) → Call s t before after r → Given input before.bytes s ds → IsWithinLimit input after.bytes
  within_limit r input ds c g =
      elim g [
        | inl o ↦ open_within input before.bytes s ds o.1 after.bytes (c.bounded o.1.rest o.1.is_left)
        | inr l ↦ last_within (c.untouched (not_open s.kept l.0)) l.1
      ]

  -- where no fault was found before, the count rises exactly at a failed read
  pub call_counts : (r : Result Next LineFault) → IsGoing s → Call s t before after r → Counted before after r
  call_counts r going c =
      elim going [
        | inl e ↦ c.counts e
        | inr e ↦
            let same : after ≡ before = c.untouched (not_open s.kept e) in
            subst (λ (x : Result Next LineFault). Counted before after x) (sym (again_end s.kept r e c.again)) (ap (λ (d : Device). d.faults) same)
      ]

  pub line_going : (n : ℕ) (bytes : List ℕ) → IsGoing s → Call s t before after (Ok (next.Line n bytes)) → IsGoing t
  line_going n bytes going c =
      elim c.keeps [
        | inl same ↦ elim going [ inl e ↦ inl (same ∙ e) | inr e ↦ inr (same ∙ e) ]
        | inr e ↦ inr e
      ]
