-- The ends of a file, and its footer.
use Rattle.std.proofs.Common.{◌≡◌, refl, sym, ℕ, ◌-◌, ◌<◌, ◌≤◌, nat_lt, List, [], ◌∷◌, ◌++◌, length, append-nil, Ok, Err, true, false, arith}
use Rattle.std.proofs.lemmas.Bool.Decides.{nat_tests}
use Rattle.vs_bytes.specs.Numbers.{part}
use Rattle.vs_bytes.specs.declared.rule.Rule.{Rule}
use Rattle.vs_bytes.specs.declared.rule.Rule.TheVariants.{NotParquet}
use Rattle.footer_structs.specs.ReadFooters.{footer}
use Rattle.footer_structs.specs.declared.file_metadata.FileMeta.{FileMeta}
use Rattle.thrift_footer.specs.Opening.{footer_size, size_in, range, footer_ranges, end_ranges, opening_ranges, begin_of, opened, opening, IsFile, Asks, Judges, IsThere}
use Rattle.shelf.specs.Storage.{Storage}
use Rattle.thrift_footer.proofs.Asking.{asks_same, asks_less, asks_passed}
use Rattle.thrift_footer.specs.declared.opening.Opened.{Opened}
use Rattle.thrift_footer.specs.declared.opening.OpenFault.{OpenFault}
use Rattle.thrift_footer.specs.declared.opening.OpenFault.TheVariants.{Absent, Failed, Refused, NoMemory}

pub too_short : (file : List ℕ) (len : ℕ) → length file ≡ len → len < 12 → size_in file ≡ Err NotParquet
unfolding size_in
too_short file len e h =
    let short : nat_lt (length file) 12 ≡ true = (let own : length file < 12 = omega (arith, e, h) in grind (arith, nat_tests)) in
    rw short refl

pub by_ends : (file front tail : List ℕ) (len : ℕ) → length file ≡ len → 12 ≤ len → front ≡ part file 0 4 → tail ≡ part file (len - 8) 8 → footer_size len front tail ≡ size_in file
unfolding size_in
by_ends file front tail len e h f t =
    let long : nat_lt (length file) 12 ≡ false = (let own : 12 ≤ length file = omega (arith, e, h) in grind (arith, nat_tests)) in
    rw (long, f, t, e) refl

-- a footer of a good length

pub opened_is : (file : List ℕ) (len size : ℕ) (meta : FileMeta) → length file ≡ len → size_in file ≡ Ok size → footer (part file (begin_of len size) size) ≡ Ok meta → opening file ≡ Ok (opened len size meta)
unfolding opening
opened_is file len size meta e s f = rw (s, e, f) refl

pub footer_fails : (file : List ℕ) (len size : ℕ) (e : OpenFault) → length file ≡ len → size_in file ≡ Ok size → Judges {A = FileMeta} (footer (part file (begin_of len size) size)) (Err e) → Judges {A = Opened} (opening file) (Err e)
unfolding opening
footer_fails file len size Absent e s j = j
footer_fails file len size Failed e s j = tt
footer_fails file len size (Refused rule) e s j = rw (s, e, j) refl
footer_fails file len size NoMemory e s j = tt

pub size_fails : (file : List ℕ) (e : OpenFault) → Judges {A = ℕ} (size_in file) (Err e) → Judges {A = Opened} (opening file) (Err e)
unfolding opening
size_fails file Absent j = j
size_fails file Failed j = tt
size_fails file (Refused rule) j = rw j refl
size_fails file NoMemory j = tt

-- the ranges of both ends
pub ends_planned : (name : List ℕ) (len : ℕ) → 12 ≤ len → (range name (len - 8) 8 ∷ range name 0 4 ∷ []) ≡ end_ranges name len
ends_planned name len h =
    let long : nat_lt len 12 ≡ false = grind (arith, nat_tests) in
    rw long refl

-- The ranges of a whole opening.

pub ranges_are : (name file : List ℕ) (len size : ℕ) → length file ≡ len → size_in file ≡ Ok size → (end_ranges name len ++ range name (begin_of len size) size ∷ []) ≡ opening_ranges name file
ranges_are name file len size e s = rw (s, e) refl

pub no_footer : (name file : List ℕ) (len : ℕ) (rule : Rule) → length file ≡ len → size_in file ≡ Err rule → end_ranges name len ≡ opening_ranges name file
no_footer name file len rule e s = rw (s, e) (sym (append-nil (end_ranges name len)))

some_footer : (name file : List ℕ) (len : ℕ) → length file ≡ len → (end_ranges name len ++ footer_ranges name len (size_in file)) ≡ opening_ranges name file
some_footer name file len e = rw e refl

-- the ends weren't read, or are refused
pub asks_ended : (before after : Storage) (name : List ℕ) (len : ℕ) (e : OpenFault) → ((file : List ℕ) → IsFile before.files name file → length file ≡ len) → ((file : List ℕ) → IsFile before.files name file → Judges {A = ℕ} (size_in file) (Err e)) → IsThere {A = ℕ} (Err e) → Asks {A = ℕ} before after name (λ file. end_ranges name len) (Err e) → Asks {A = Opened} before after name (opening_ranges name) (Err e)
asks_ended before after name len Absent known judged i h = absurd i
asks_ended before after name len Failed known judged i h =
    asks_same before after name (λ file. end_ranges name len ++ footer_ranges name len (size_in file)) (opening_ranges name) _ (λ file k. some_footer name file len (known file k)) (asks_less before after name (λ file. end_ranges name len) (λ file. footer_ranges name len (size_in file)) Failed tt h)
asks_ended before after name len (Refused rule) known judged i h =
    asks_same before after name (λ file. end_ranges name len) (opening_ranges name) _ (λ file k. no_footer name file len rule (known file k) (judged file k)) (asks_passed before after name (λ file. end_ranges name len) (Refused rule) h)
asks_ended before after name len NoMemory known judged i h =
    asks_same before after name (λ file. end_ranges name len ++ footer_ranges name len (size_in file)) (opening_ranges name) _ (λ file k. some_footer name file len (known file k)) (asks_less before after name (λ file. end_ranges name len) (λ file. footer_ranges name len (size_in file)) NoMemory tt h)
