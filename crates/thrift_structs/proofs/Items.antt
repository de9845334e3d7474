-- The elements of a list, one after the other.
use Rattle.std.proofs.Common.{◌≡◌, refl, sym, ap, ℕ, suc, ◌+◌, ◌-◌, ◌<◌, ◌≤◌, List, [], ◌∷◌, ◌++◌, Bool, true, false, if◌then◌else◌, Option, None, Some, Result, Ok, Err, arith, append_assoc, append-nil}
use Rattle.vs_bytes.specs.Outcome.{◌>>=◌}
use Rattle.vs_bytes.specs.declared.rule.Rule.{Rule}
use Rattle.thrift_compact.specs.Numbers.{Read, mapped}
use Rattle.thrift_compact.specs.Headers.{list}
use Rattle.thrift_compact.specs.Skipping.{elements, skipped}
use Rattle.thrift_compact.specs.Trees.{Value, Elements, other, list_value, with_element, Shape, lists, is_element, elements_at, list_at, shaped}
use Rattle.thrift_compact.specs.Slots.{◌>>?◌}
use Rattle.thrift_structs.specs.Entries.{each_in, list_in, list_read, pushed}

-- items that were read, and those after them
abbrev pub joined : {A : Type 0} → Option (List A) → Option (List A) → Option (List A)
joined None more = None
joined (Some done) None = None
joined (Some done) (Some more) = Some (done ++ more)

unfoldable pub left : {A : Type 0} → (List ℕ → Read Value) → (Value → Option A) → Option (List A) → ℕ → List ℕ → Read (Option (List A))
left one read done size bytes = mapped (λ vs. joined done (each_in read vs)) (elements_at one size bytes)

joined_nil : {A : Type 0} (x : Option (List A)) → joined (Some []) x ≡ x
joined_nil None = refl
joined_nil (Some xs) = refl

pub item_start : {A : Type 0} (one : List ℕ → Read Value) (read : Value → Option A) (size : ℕ) (bytes : List ℕ) → left one read (Some []) size bytes ≡ mapped (each_in read) (elements_at one size bytes)
unfolding left
item_start one read size bytes = by (elements_at one size bytes)
  where
    by : (all : Read Elements) → mapped (λ vs. joined (Some []) (each_in read vs)) all ≡ mapped (each_in read) all
    by (Ok vs) = rw (joined_nil (each_in read vs.0)) refl
    by (Err fault) = refl

joined_push : {A : Type 0} (done : Option (List A)) (item : Option A) (more : Option (List A)) → joined done (item >>? λ a. more >>? λ rest. Some (a ∷ rest)) ≡ joined (pushed done item) more
joined_push None item more = refl
joined_push (Some done) None more = refl
joined_push (Some done) (Some a) None = refl
joined_push {A = A} (Some done) (Some a) (Some rest) = ap (λ (xs : List A). Some xs) (sym (append_assoc done (a ∷ []) rest))

pub item_turn : {A : Type 0} (one : List ℕ → Read Value) (read : Value → Option A) (done : Option (List A)) (size i : ℕ) (bytes : List ℕ) → i < size → left one read done (size - i) bytes ≡ (mapped read (one bytes) >>= λ p. left one read (pushed done p.0) (size - (i + 1)) p.1)
unfolding left elements_at each_in
item_turn one read done size i bytes h =
    let e : size - i ≡ suc (size - (i + 1)) = omega (arith, h) in
    rw e (by (one bytes))
  where
    after : (v : Value) (all : Read Elements) → mapped (λ vs. joined done (each_in read vs)) (mapped (with_element v) all) ≡ mapped (λ vs. joined (pushed done (read v)) (each_in read vs)) all
    after v (Ok vs) = rw (joined_push done (read v) (each_in read vs.0)) refl
    after v (Err fault) = refl

    by : (first : Read Value) → mapped (λ vs. joined done (each_in read vs)) (first >>= λ v. mapped (with_element v.0) (elements_at one (size - (i + 1)) v.1)) ≡ (mapped read first >>= λ p. mapped (λ vs. joined (pushed done p.0) (each_in read vs)) (elements_at one (size - (i + 1)) p.1))
    by (Ok v) = after v.0 (elements_at one (size - (i + 1)) v.1)
    by (Err fault) = refl

joined_end : {A : Type 0} (done : Option (List A)) → joined done (Some []) ≡ done
joined_end None = refl
joined_end {A = A} (Some done) = ap (λ (xs : List A). Some xs) (append-nil done)

pub item_end : {A : Type 0} (one : List ℕ → Read Value) (read : Value → Option A) (done : Option (List A)) (size i : ℕ) (bytes : List ℕ) → size ≤ i → left one read done (size - i) bytes ≡ Ok (done, bytes)
unfolding left elements_at each_in
item_end one read done size i bytes h =
    let e : size - i ≡ 0 = omega (arith, h) in
    rw (e, joined_end done) refl

-- A list by its header.

elements_are : {A : Type 0} (read : Value → Option A) (kind : ℕ) (all : Read Elements) → mapped (list_in read) (mapped (list_value kind) all) ≡ mapped (each_in read) all
elements_are read kind (Ok vs) = refl
elements_are read kind (Err fault) = refl

nothing_is : {A : Type 0} (read : Value → Option A) (all : Result (List ℕ) Rule) → mapped (list_in read) (all >>= λ rest. Ok (other, rest)) ≡ (all >>= λ rest. Ok (None, rest))
nothing_is read (Ok rest) = refl
nothing_is read (Err fault) = refl

pub list_is : {A : Type 0} (s : Shape) (read : Value → Option A) (kind : ℕ) (bytes : List ℕ) → mapped (list_in read) (shaped (lists s) kind bytes) ≡ list_read s read bytes
unfolding shaped list_read
list_is {A = A} s read kind bytes = by (list bytes)
  where
    each : (fits : Bool) (own : ℕ) (all : Read Elements) (past : Result (List ℕ) Rule) → mapped (list_in read) (if fits then mapped (list_value own) all else past >>= λ rest. Ok (other, rest)) ≡ (if fits then mapped (each_in read) all else (past >>= λ rest. Ok (None, rest)))
    each true own all past = elements_are read own all
    each false own all past = nothing_is read past

    by : (head : Read (ℕ × ℕ)) → mapped (list_in read) (head >>= λ l. list_at (is_element s l.0.0) (shaped s l.0.0) l.0.0 l.0.1 l.1) ≡ (head >>= λ l. if is_element s l.0.0 then mapped (each_in read) (elements_at (shaped s l.0.0) l.0.1 l.1) else (elements (skipped 32) l.0.0 l.0.1 l.1 >>= λ rest. Ok (None, rest)))
    by (Ok l) = each (is_element s l.0.0) l.0.0 (elements_at (shaped s l.0.0) l.0.1 l.1) (elements (skipped 32) l.0.0 l.0.1 l.1)
    by (Err fault) = refl
