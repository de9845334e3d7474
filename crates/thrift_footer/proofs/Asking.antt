-- Ranges that were asked for, one call after the other.
use Rattle.std.proofs.Common.{◌≡◌, ◌∙◌, refl, sym, ap, subst, ℕ, List, [], ◌++◌, Option, None, Some, Result, Ok, Err, append_assoc, append-nil}
use Rattle.vs_bytes.specs.declared.rule.Rule.{Rule}
use Rattle.shelf.specs.Storage.{Files, Storage, FailsRead, Lacks, Misses}
use Rattle.shelf.specs.Calls.{IsCounted, with_ranges}
use Rattle.shelf.specs.declared.byte_range.ByteRange.{ByteRange}
use Rattle.thrift_footer.specs.Opening.{IsFile, Leaves, Keeps, Asks, IsRead, IsThere}
use Rattle.thrift_footer.specs.declared.opening.OpenFault.{OpenFault}
use Rattle.thrift_footer.specs.declared.opening.OpenFault.TheVariants.{Absent, Failed, Refused, NoMemory}

abbrev pub Plan : Type 0
Plan = List ℕ → List ByteRange

-- the same plan
pub asks_same : {A : Type 0} (before after : Storage) (name : List ℕ) (p q : Plan) (r : Result A OpenFault) → ((file : List ℕ) → IsFile before.files name file → p file ≡ q file) → Asks before after name p r → Asks before after name q r
asks_same before after name p q r e h = record {
  asked = h.asked;
  leaves = h.leaves;
  keeps = λ file k. subst (λ (plan : List ByteRange). Keeps h.asked plan r) (e file k) (h.keeps file k);
}

-- more would have been asked for
pub asks_less : {A B : Type 0} (before after : Storage) (name : List ℕ) (p q : Plan) (e : OpenFault) → IsRead {A = A} (Err e) → Asks {A = A} before after name p (Err e) → Asks {A = B} before after name (λ file. p file ++ q file) (Err e)
asks_less before after name p q Absent i h = absurd i
asks_less before after name p q Failed i h = record {
  asked = h.asked;
  leaves = h.leaves;
  keeps = λ file k. let own = h.keeps file k in (own.0 ++ q file, ap (λ (rs : List ByteRange). rs ++ q file) own.1 ∙ append_assoc h.asked own.0 (q file));
}
asks_less before after name p q (Refused rule) i h = absurd i
asks_less before after name p q NoMemory i h = record {
  asked = h.asked;
  leaves = h.leaves;
  keeps = λ file k. let own = h.keeps file k in (own.0 ++ q file, ap (λ (rs : List ByteRange). rs ++ q file) own.1 ∙ append_assoc h.asked own.0 (q file));
}

ranges_join : (s : Storage) (a b : List ByteRange) → with_ranges (with_ranges s a) b ≡ with_ranges s (a ++ b)
ranges_join s a b = ap (λ (t : List ByteRange). record s { touched = t }) (append_assoc s.touched a b)

-- one call after another
behind : {A : Type 0} (before after : Storage) (name : List ℕ) (p q : Plan) (first : List ByteRange) (r : Result A OpenFault) → IsThere r → ((file : List ℕ) → IsFile before.files name file → first ≡ p file) → Asks (with_ranges before first) after name q r → Asks before after name (λ file. p file ++ q file) r
behind {A = A} before after name p q first r i e h = record {
  asked = first ++ h.asked;
  leaves = leaves r i h.leaves;
  keeps = λ file k. keeps file (e file k) r (h.keeps file k);
}
  where
    leaves : (s : Result A OpenFault) → IsThere s → Leaves (with_ranges before first) after name h.asked s → Leaves before after name (first ++ h.asked) s
    leaves (Ok a) i l = l ∙ ranges_join before first h.asked
    leaves (Err Absent) i l = absurd i
    leaves (Err Failed) i l = (l.0, l.1 ∙ ap (λ (t : List ByteRange). record before { touched = t; counts = after.counts }) (append_assoc before.touched first h.asked))
    leaves (Err (Refused rule)) i l = l ∙ ranges_join before first h.asked
    leaves (Err NoMemory) i l = l ∙ ranges_join before first h.asked

    joined : (file : List ℕ) → first ≡ p file → h.asked ≡ q file → first ++ h.asked ≡ p file ++ q file
    joined file own more = ap (λ (rs : List ByteRange). rs ++ h.asked) own ∙ ap (λ (rs : List ByteRange). p file ++ rs) more

    prefix : (file : List ℕ) → first ≡ p file → (rest : List ByteRange) → q file ≡ h.asked ++ rest → p file ++ q file ≡ (first ++ h.asked) ++ rest
    prefix file own rest more = ap (λ (rs : List ByteRange). rs ++ q file) (sym own) ∙ ap (λ (rs : List ByteRange). first ++ rs) more ∙ sym (append_assoc first h.asked rest)

    keeps : (file : List ℕ) → first ≡ p file → (s : Result A OpenFault) → Keeps h.asked (q file) s → Keeps (first ++ h.asked) (p file ++ q file) s
    keeps file own (Ok a) k = joined file own k
    keeps file own (Err Absent) k = k
    keeps file own (Err Failed) k = (k.0, prefix file own k.0 k.1)
    keeps file own (Err (Refused rule)) k = joined file own k
    keeps file own (Err NoMemory) k = (k.0, prefix file own k.0 k.1)

pub asks_then : {A B : Type 0} (before mid after : Storage) (name : List ℕ) (p q : Plan) (a : A) (r : Result B OpenFault) → IsThere r → Asks before mid name p (Ok a) → Asks mid after name q r → Asks before after name (λ file. p file ++ q file) r
asks_then before mid after name p q a r i h g = behind before after name p q h.asked r i h.keeps (subst (λ (s : Storage). Asks s after name q r) h.leaves g)

-- a file stays known
pub file_stays : {A : Type 0} (before mid : Storage) (name : List ℕ) (p : Plan) (a : A) (file : List ℕ) → Asks before mid name p (Ok a) → IsFile before.files name file → IsFile mid.files name file
file_stays before mid name p a file h k = subst (λ (s : Storage). IsFile s.files name file) (sym h.leaves) k

pub read_there : (e : OpenFault) → IsRead {A = Unit {0}} (Err e) → IsThere {A = Unit {0}} (Err e)
read_there Absent i = absurd i
read_there Failed i = tt
read_there (Refused rule) i = tt
read_there NoMemory i = tt

-- a call that asks for nothing

none_more : (s : Storage) → s ≡ with_ranges s []
none_more s = ap (λ (t : List ByteRange). record s { touched = t }) (sym (append-nil s.touched))

pub asks_none : {A : Type 0} (s : Storage) (name : List ℕ) (p : Plan) (rule : Rule) → ((file : List ℕ) → IsFile s.files name file → p file ≡ []) → Asks {A = A} s s name p (Err (Refused rule))
asks_none s name p rule e = record {
  asked = [];
  leaves = none_more s;
  keeps = λ file k. sym (e file k);
}

pub asks_nothing : {A : Type 0} (s : Storage) (name : List ℕ) (p : Plan) → Asks {A = A} s s name p (Err NoMemory)
asks_nothing s name p = record {
  asked = [];
  leaves = none_more s;
  keeps = λ file k. (p file, refl);
}

pub asks_failed : {A : Type 0} (before after : Storage) (name : List ℕ) (p : Plan) → FailsRead before.counts after.counts → IsCounted before after → Asks {A = A} before after name p (Err Failed)
asks_failed before after name p f e = record {
  asked = [];
  leaves = (f, e ∙ ap (λ (t : List ByteRange). record before { touched = t; counts = after.counts }) (sym (append-nil before.touched)));
  keeps = λ file k. (p file, refl);
}

-- nothing was asked for
pub touched_kept : (before after : Storage) → IsCounted before after → after.touched ≡ before.touched
touched_kept before after counted = ap (λ (s : Storage). s.touched) counted

pub touched_same : (before after : Storage) → after ≡ before → after.touched ≡ before.touched
touched_same before after same = ap (λ (s : Storage). s.touched) same

no_file : (files : Option Files) (name file : List ℕ) → Lacks files name → IsFile files name file → ⊥
no_file files name file l k =
    let lacks : Lacks (Some k.map) name = subst (λ (fs : Option Files). Lacks fs name) k.known l in
    let same : Some file ≡ None = sym k.there ∙ lacks in
    cc

pub asks_absent : {A : Type 0} (before after : Storage) (name : List ℕ) (p : Plan) → Lacks before.files name → Misses before.counts after.counts → IsCounted before after → Asks {A = A} before after name p (Err Absent)
asks_absent before after name p l m e = record {
  asked = [];
  leaves = (l, m, e);
  keeps = λ file k. no_file before.files name file l k;
}

-- what was read is judged

pub asks_given : {A B : Type 0} (before after : Storage) (name : List ℕ) (p : Plan) (a : A) (b : B) → Asks before after name p (Ok a) → Asks before after name p (Ok b)
asks_given before after name p a b h = record { asked = h.asked; leaves = h.leaves; keeps = h.keeps }

pub asks_refused : {A B : Type 0} (before after : Storage) (name : List ℕ) (p : Plan) (a : A) (rule : Rule) → Asks before after name p (Ok a) → Asks {A = B} before after name p (Err (Refused rule))
asks_refused before after name p a rule h = record { asked = h.asked; leaves = h.leaves; keeps = h.keeps }

pub asks_unheld : {A B : Type 0} (before after : Storage) (name : List ℕ) (p : Plan) (a : A) → Asks before after name p (Ok a) → Asks {A = B} before after name p (Err NoMemory)
asks_unheld before after name p a h = record {
  asked = h.asked;
  leaves = h.leaves;
  keeps = λ file k. ([], sym (h.keeps file k) ∙ sym (append-nil h.asked));
}

-- the same call, of another result: it read nothing
pub asks_passed : {A B : Type 0} (before after : Storage) (name : List ℕ) (p : Plan) (e : OpenFault) → Asks {A = A} before after name p (Err e) → Asks {A = B} before after name p (Err e)
asks_passed before after name p Absent h = record { asked = h.asked; leaves = h.leaves; keeps = h.keeps }
asks_passed before after name p Failed h = record { asked = h.asked; leaves = h.leaves; keeps = h.keeps }
asks_passed before after name p (Refused rule) h = record { asked = h.asked; leaves = h.leaves; keeps = h.keeps }
asks_passed before after name p NoMemory h = record { asked = h.asked; leaves = h.leaves; keeps = h.keeps }
