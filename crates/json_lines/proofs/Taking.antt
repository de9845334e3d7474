-- What was taken, step by step.
use Rattle.std.proofs.Common.{◌≡◌, ◌∙◌, ℕ, ◌+◌, ◌≤◌, false, List, [], ◌∷◌, ◌++◌, Option, None, Some, Result, Ok, Err, inl, inr, take, drop, length, refl, sym, ap, subst, arith, append_assoc, append-nil, length-append}
use Rattle.std.specs.Prelude.{Contains}
use Rattle.std.specs.Io.KnownBytes.{Consumes, IsAtEnd, Keeps}
use Rattle.outside.specs.Devices.{Device}
use Rattle.json_lines.specs.Cut.{lines_of, first_line, found_long, found_over, is_blank}
use Rattle.json_lines.specs.Next.{Kept, long, over, failed, kept_next, State, found, is_decided}
use Rattle.json_lines.specs.Front.{IsLine, IsLong, IsOpen, GivesLine, ComesLast, Fills}
use Rattle.json_lines.specs.Takings.{AreWhole, Passed, PassedFrom, Took, IsBounded, Comes, Arrives}
use Rattle.json_lines.specs.declared.answer.Next.{Next}
use Rattle.json_lines.specs.declared.answer.Next.TheVariants as next
use Rattle.json_lines.specs.declared.answer.LineFault.{LineFault}
use Rattle.json_lines.specs.declared.answer.LineFault.TheVariants as fault
use Rattle.json_lines.proofs.Steps.{behind, took_line}

pub whole_both : (xs ys : List ℕ) → AreWhole xs → AreWhole ys → AreWhole (xs ++ ys)
whole_both xs ys f g =
    elim g [
      | inl e ↦ subst AreWhole (sym (ap (λ (s : List ℕ). xs ++ s) e ∙ append-nil xs)) f
      | inr e ↦ inr (xs ++ e.0, ap (λ (s : List ℕ). xs ++ s) e.1 ∙ sym (append_assoc xs e.0 (10 ∷ [])))
    ]

pub passed_nothing : (s t : State) (ahead after : List ℕ) → t.number ≡ s.number → t.room ≡ s.room → ahead ≡ after → Passed s ahead t after
passed_nothing s t ahead after n r e = record {
  taken = [];
  splits = e;
  counts = omega (arith, r);
  whole = inl refl;
  alike = λ tail. ap (λ (k : ℕ). first_line k (lines_of t.room tail)) n ∙ ap (λ (k : ℕ). first_line s.number (lines_of k tail)) r;
}

pub passed_then : (s t u : State) (xs ys zs : List ℕ) → Passed s xs t ys → Passed t ys u zs → Passed s xs u zs
passed_then s t u xs ys zs f g = record {
  taken = f.taken ++ g.taken;
  splits = f.splits ∙ ap (λ (l : List ℕ). f.taken ++ l) g.splits ∙ sym (append_assoc f.taken g.taken zs);
  counts = omega (arith, f.counts, g.counts, length-append f.taken g.taken);
  whole = whole_both f.taken g.taken f.whole g.whole;
  alike = λ tail. g.alike tail ∙ f.alike (g.taken ++ tail) ∙ ap (λ (l : List ℕ). first_line s.number (lines_of s.room l)) (sym (append_assoc f.taken g.taken tail));
}

pub passed_with : (s t : State) (xs ys rest : List ℕ) → Passed s xs t ys → Passed s (xs ++ rest) t (ys ++ rest)
passed_with s t xs ys rest f = record {
  taken = f.taken;
  splits = ap (λ (l : List ℕ). l ++ rest) f.splits ∙ append_assoc f.taken ys rest;
  counts = f.counts;
  whole = f.whole;
  alike = f.alike;
}

-- what comes first after what was taken is what came first
pub passed_found : (s t : State) (xs ys : List ℕ) → Passed s xs t ys → first_line t.number (lines_of t.room ys) ≡ first_line s.number (lines_of s.room xs)
passed_found s t xs ys f = f.alike ys ∙ ap (λ (l : List ℕ). first_line s.number (lines_of s.room l)) (sym f.splits)

pub took_with : (s t : State) (xs ys rest : List ℕ) (n : ℕ) (bytes : List ℕ) → Took s xs t ys n bytes → Took s (xs ++ rest) t (ys ++ rest) n bytes
took_with s t xs ys rest n bytes f = record {
  taken = f.taken;
  splits = ap (λ (l : List ℕ). l ++ rest) f.splits ∙ append_assoc f.taken ys rest;
  counts = f.counts;
  whole = f.whole;
  gives = f.gives;
  number = f.number;
  kept = f.kept;
}

pub took_after : (s t u : State) (xs ys zs : List ℕ) (n : ℕ) (bytes : List ℕ) → t.kept ≡ s.kept → Passed s xs t ys → Took t ys u zs n bytes → Took s xs u zs n bytes
took_after s t u xs ys zs n bytes kept f g = record {
  taken = f.taken ++ g.taken;
  splits = f.splits ∙ ap (λ (l : List ℕ). f.taken ++ l) g.splits ∙ sym (append_assoc f.taken g.taken zs);
  counts = omega (arith, f.counts, g.counts, length-append f.taken g.taken);
  whole = whole_both f.taken g.taken f.whole g.whole;
  gives = λ tail. ap (λ (l : List ℕ). first_line s.number (lines_of s.room l)) (append_assoc f.taken g.taken tail) ∙ sym (f.alike (g.taken ++ tail)) ∙ g.gives tail;
  number = g.number;
  kept = g.kept ∙ kept;
}

-- ---- with the source's bytes

pub from_start : (s : State) (rest : List ℕ) (left : Option (List ℕ)) → left ≡ Some rest → PassedFrom s rest s left
from_start s rest left e = record { read = []; after = rest; is_left = e; reads = refl; passed = passed_nothing s s (s.held ++ rest) (s.held ++ rest) refl refl refl }

pub from_blank : (s t u : State) (rest : List ℕ) (left : Option (List ℕ)) → PassedFrom s rest t left → Passed t t.held u u.held → PassedFrom s rest u left
from_blank s t u rest left f g =
    record { read = f.read; after = f.after; is_left = f.is_left; reads = f.reads; passed = passed_then s t u (s.held ++ rest) (t.held ++ f.after) (u.held ++ f.after) f.passed (passed_with t u t.held u.held f.after g) }

-- what a read took of known bytes
read_of : (left new : Option (List ℕ)) (bytes after : List ℕ) → left ≡ Some after → Consumes left new bytes → (rest : List ℕ) × (new ≡ Some rest) × (after ≡ bytes ++ rest)
read_of None new bytes after e c = cc
read_of (Some xs) None bytes after e c = absurd c
read_of (Some xs) (Some ys) bytes after e c = let same : xs ≡ after = cc in (ys, refl, sym same ∙ c)

kept_of : (left new : Option (List ℕ)) (after : List ℕ) → left ≡ Some after → Keeps left new → new ≡ Some after
kept_of None new after e k = cc
kept_of (Some xs) None after e k = absurd k
kept_of (Some xs) (Some ys) after e k = ap Some k ∙ e

pub from_read : (s t u : State) (rest bytes : List ℕ) (left new : Option (List ℕ)) → PassedFrom s rest t left → u.number ≡ t.number → u.room ≡ t.room → u.held ≡ t.held ++ bytes → Consumes left new bytes
    → PassedFrom s rest u new
from_read s t u rest bytes left new f n r h c =
    let now = read_of left new bytes f.after f.is_left c in
    let same : t.held ++ f.after ≡ u.held ++ now.0 = ap (λ (l : List ℕ). t.held ++ l) now.2 ∙ sym (append_assoc t.held bytes now.0) ∙ ap (λ (l : List ℕ). l ++ now.0) (sym h) in
    record {
      read = f.read ++ bytes;
      after = now.0;
      is_left = now.1;
      reads = f.reads ∙ ap (λ (l : List ℕ). f.read ++ l) now.2 ∙ sym (append_assoc f.read bytes now.0);
      passed = passed_then s t u (s.held ++ rest) (t.held ++ f.after) (u.held ++ now.0) f.passed (passed_nothing t u (t.held ++ f.after) (u.held ++ now.0) n r same);
    }

pub from_failed : (s t : State) (rest : List ℕ) (left new : Option (List ℕ)) → PassedFrom s rest t left → Keeps left new → PassedFrom s rest t new
from_failed s t rest left new f k = record { read = f.read; after = f.after; is_left = kept_of left new f.after f.is_left k; reads = f.reads; passed = f.passed }

pub from_found : (s t : State) (rest : List ℕ) (left : Option (List ℕ)) (f : PassedFrom s rest t left) → found t f.after ≡ found s rest
from_found s t rest left f = passed_found s t (s.held ++ rest) (t.held ++ f.after) f.passed

pub at_end_is : (left : Option (List ℕ)) (after : List ℕ) → left ≡ Some after → IsAtEnd left → left ≡ Some []
at_end_is None after e h = cc
at_end_is (Some xs) after e h = ap Some h

-- ---- how many bytes were taken

pub from_bounded : (s t : State) (rest : List ℕ) (left : Option (List ℕ)) → PassedFrom s rest t left → length t.held ≤ t.room + 1 → IsBounded s rest left
from_bounded s t rest left f within =
    let sizes = ap length f.passed.splits in
    record {
      read = f.read;
      after = f.after;
      is_left = f.is_left;
      reads = f.reads;
      most = omega (arith, within, f.passed.counts, sizes, ap length f.reads, length-append f.read f.after, length-append s.held rest, length-append f.passed.taken (t.held ++ f.after), length-append t.held f.after);
    }

-- nothing was read
pub bounded_unread : (s : State) (rest : List ℕ) (left : Option (List ℕ)) → left ≡ Some rest → length s.held ≤ s.room + 1 → IsBounded s rest left
bounded_unread s rest left e within = record { read = []; after = rest; is_left = e; reads = refl; most = omega (arith, within) }

-- ---- the answers

arrives_same : (s t u : State) (rest : List ℕ) (left : Option (List ℕ)) → u ≡ t → PassedFrom s rest t left → PassedFrom s rest u left
arrives_same s t u rest left e f = subst (λ (v : State). PassedFrom s rest v left) (sym e) f

pub arrives_line : (s t u : State) (rest : List ℕ) (left : Option (List ℕ)) (at : ℕ) (r : Result Next LineFault) → PassedFrom s rest t left → t.kept ≡ s.kept → length t.held ≤ t.room + 1 → IsLine t at
    → is_blank (take at t.held) ≡ false → GivesLine at (at + 1) t u r → Arrives s rest u left r
arrives_line s t u rest left at (Ok (next.Line n bytes)) f kept within is given g =
    let line = took_line t at is given in
    let whole = took_after s t (behind t (at + 1)) (s.held ++ rest) (t.held ++ f.after) (drop (at + 1) t.held ++ f.after) (t.number + 1) (take at t.held) kept f.passed
    (took_with t (behind t (at + 1)) t.held (drop (at + 1) t.held) f.after (t.number + 1) (take at t.held) line) in
    let named = subst (λ (m : ℕ). Took s (s.held ++ rest) (behind t (at + 1)) (drop (at + 1) t.held ++ f.after) m bytes) (sym g.0)
    (subst (λ (b : List ℕ). Took s (s.held ++ rest) (behind t (at + 1)) (drop (at + 1) t.held ++ f.after) (t.number + 1) b) (sym g.1) whole) in
    record {
      comes = inl (record { after = f.after; is_left = f.is_left; took = subst (λ (v : State). Took s (s.held ++ rest) v (v.held ++ f.after) n bytes) (sym g.2) named });
      bounded = from_bounded s t rest left f within;
    }
arrives_line s t u rest left at (Ok (next.TooLong n)) f kept within is given g = absurd g
arrives_line s t u rest left at (Ok next.End) f kept within is given g = absurd g
arrives_line s t u rest left at (Err fault.NoMemory) f kept within is given g = record { comes = arrives_same s t u rest left g f; bounded = from_bounded s t rest left f within }
arrives_line s t u rest left at (Err fault.InputTooLong) f kept within is given g = absurd g
arrives_line s t u rest left at (Err fault.ReadFault) f kept within is given g = absurd g

pub arrives_long : (s t : State) (rest : List ℕ) (left : Option (List ℕ)) (n : ℕ) → PassedFrom s rest t left → length t.held ≤ t.room + 1 → IsLong t → n ≡ t.number + 1 → Arrives s rest t left (Ok (next.TooLong n))
arrives_long s t rest left n f within is e = record {
  comes = (sym (from_found s t rest left f) ∙ is.ahead f.after ∙ ap found_long (sym e), f);
  bounded = from_bounded s t rest left f within;
}

pub arrives_over : (s t : State) (rest : List ℕ) (left : Option (List ℕ)) → PassedFrom s rest t left → length t.held ≤ t.room + 1 → ((more : List ℕ) → found t more ≡ found_over) → Arrives s rest t left (Err fault.InputTooLong)
arrives_over s t rest left f within is = record {
  comes = (sym (from_found s t rest left f) ∙ is f.after, f);
  bounded = from_bounded s t rest left f within;
}

pub arrives_last : (s t u : State) (rest : List ℕ) (left : Option (List ℕ)) (r : Result Next LineFault) → PassedFrom s rest t left → length t.held ≤ t.room + 1 → IsAtEnd left → ComesLast t u r → Arrives s rest u left r
arrives_last s t u rest left r f within end g = record { comes = by r g; bounded = from_bounded s t rest left f within }
  where
    at_end : left ≡ Some []
    at_end = at_end_is left f.after f.is_left end

    found_is : found s rest ≡ found t []
    found_is = let one : left ≡ Some f.after = f.is_left in let two : left ≡ Some [] = at_end in let none : f.after ≡ [] = cc in sym (from_found s t rest left f) ∙ ap (found t) none

    by : (a : Result Next LineFault) → ComesLast t u a → Comes s rest u left a
    by (Ok (next.Line n bytes)) h = inr (record { gives = found_is ∙ h.0; at_end = at_end; number = h.2; held = h.3; kept = h.4 })
    by (Ok (next.TooLong n)) h = absurd h
    by (Ok next.End) h = (found_is ∙ h.0, at_end)
    by (Err fault.NoMemory) h = arrives_same s t u rest left h f
    by (Err fault.InputTooLong) h = absurd h
    by (Err fault.ReadFault) h = absurd h

pub arrives_failed : (s t u : State) (rest : List ℕ) (before after : Device) (e : LineFault) → PassedFrom s rest t before.bytes → length t.held ≤ t.room + 1 → IsOpen t → Fills before after t u (Err e) → Arrives s rest u after.bytes (Err e)
arrives_failed s t u rest before after fault.ReadFault f within is g =
    let left = from_failed s t rest before.bytes after.bytes f g.1 in
    record {
      comes = (
        λ lf. is.plain (subst (λ (v : State). Contains v.held 10) g.0 lf),
        ap (λ (v : State). is_decided (lines_of v.room v.held)) g.0 ∙ is.undecided,
        arrives_same s t u rest after.bytes g.0 left,
      );
      bounded = from_bounded s t rest after.bytes left within;
    }
arrives_failed s t u rest before after fault.InputTooLong f within is g = absurd g
arrives_failed s t u rest before after fault.NoMemory f within is g =
    let left = subst (λ (d : Device). PassedFrom s rest t d.bytes) (sym g.1) f in
    record { comes = arrives_same s t u rest after.bytes g.0 left; bounded = from_bounded s t rest after.bytes left within }

-- ---- an answer is kept

passed_kept : (s t : State) (kept : Kept) (rest : List ℕ) (left : Option (List ℕ)) → PassedFrom s rest t left → PassedFrom s rest (record { number = t.number; room = t.room; held = t.held; kept = kept }) left
passed_kept s t kept rest left f = record {
  read = f.read;
  after = f.after;
  is_left = f.is_left;
  reads = f.reads;
  passed = record { taken = f.passed.taken; splits = f.passed.splits; counts = f.passed.counts; whole = f.passed.whole; alike = f.passed.alike };
}

pub comes_kept : (s t : State) (rest : List ℕ) (left : Option (List ℕ)) (r : Result Next LineFault) → Comes s rest t left r → Comes s rest (record { number = t.number; room = t.room; held = t.held; kept = kept_next r t.kept }) left r
comes_kept s t rest left (Ok (next.Line n bytes)) c =
    elim c [
      | inl f ↦
          inl (record {
            after = f.after;
            is_left = f.is_left;
            took = record { taken = f.took.taken; splits = f.took.splits; counts = f.took.counts; whole = f.took.whole; gives = f.took.gives; number = f.took.number; kept = f.took.kept };
          })
      | inr f ↦ inr (record { gives = f.gives; at_end = f.at_end; number = f.number; held = f.held; kept = f.kept })
    ]
comes_kept s t rest left (Ok (next.TooLong n)) c = (c.0, passed_kept s t (long n) rest left c.1)
comes_kept s t rest left (Ok next.End) c = c
comes_kept s t rest left (Err fault.InputTooLong) c = (c.0, passed_kept s t over rest left c.1)
comes_kept s t rest left (Err fault.ReadFault) c = (c.0, c.1, passed_kept s t failed rest left c.2)
comes_kept s t rest left (Err fault.NoMemory) c = passed_kept s t t.kept rest left c
