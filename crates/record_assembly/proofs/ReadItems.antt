-- Items of any kind, read back from their entries: records of a list, and rows.
use Rattle.std.proofs.Common.{◌≡◌, ◌∙◌, refl, sym, ap, ℕ, zero, suc, ◌<◌, Bool, true, false, cond, List, [], ◌∷◌, ◌++◌, map, length, Option, Some, None, arith}
use Rattle.std.specs.List.{AllByRecursion, flat_map}
use Rattle.vs_bytes.specs.declared.leaf_columns.Entry.{Entry}
use Rattle.record_assembly.specs.Cuts.{first_item, later_items, is_nil}
use Rattle.record_assembly.specs.Reading.{with_item, items_read}
use Rattle.record_assembly.proofs.Cutting.{Begins, StartsLow, begins_low, begins_some, first_is, later_are, items_joined}
use Rattle.record_assembly.proofs.Found.{Found, FoundItems}

-- what is known of one item: its entries `e` by its repetition level, its reader `f`, what is shown of it, and which
-- leaves are read
pub record Readable {A B : Type 0} (e : ℕ → A → ℕ → List Entry) (f : ℕ → (ℕ → List Entry) → Option B) (shows : A → B) (P : A → Type 0) (L : ℕ → Type 0) (m d : ℕ) (done : (ℕ → List Entry) → Bool) : Type 0 where
  pub begin : (r : ℕ) (x : A) (j : ℕ) → P x → L j → Begins r m d (e r x j)
  pub reads : (r : ℕ) (x : A) (es : ℕ → List Entry) → P x → ((j : ℕ) → L j → es j ≡ e r x j) → f r es ≡ Some (shows x)
  pub ends : (es : ℕ → List Entry) → ((j : ℕ) → L j → es j ≡ []) → done es ≡ true
  pub goes : (es : ℕ → List Entry) → ((j : ℕ) → L j → is_nil (es j) ≡ false) → done es ≡ false

module _ {A B : Type 0} (e : ℕ → A → ℕ → List Entry) (f : ℕ → (ℕ → List Entry) → Option B) (shows : A → B) (P : A → Type 0) (L : ℕ → Type 0) (m d : ℕ) (done : (ℕ → List Entry) → Bool) where
  pub items_complete : Readable e f shows P L m d done → (xs : List A) (x : A) (fuel r : ℕ) (es : ℕ → List Entry) → P x → AllByRecursion P xs → length xs < fuel → ((j : ℕ) → L j → es j ≡ e r x j ++ flat_map (λ y. e m y j) xs) → items_read f done m fuel r es ≡ Some (shows x ∷ map shows xs)
  items_complete known xs x zero r es p ps short are = absurd (omega arith)
  items_complete known [] x (suc fuel) r es p ps short are =
      let first : (j : ℕ) → L j → first_item m (es j) ≡ e r x j = λ j l. ap (first_item m) (are j l) ∙ first_is r m d (e r x j) [] (known.begin r x j p l) tt in
      let later : (j : ℕ) → L j → later_items m (es j) ≡ [] = λ j l. ap (later_items m) (are j l) ∙ later_are r m d (e r x j) [] (known.begin r x j p l) tt in
      rw (known.reads r x (λ j. first_item m (es j)) p first, known.ends (λ j. later_items m (es j)) later) refl
  items_complete known (y ∷ ys) x (suc fuel) r es p ps short are =
      let low : (j : ℕ) → L j → StartsLow m (e m y j ++ flat_map (λ z. e m z j) ys) = λ j l. begins_low m m m d (e m y j) (flat_map (λ z. e m z j) ys) (omega arith) (known.begin m y j ps.0 l) in
      let first : (j : ℕ) → L j → first_item m (es j) ≡ e r x j = λ j l. ap (first_item m) (are j l) ∙ first_is r m d (e r x j) (e m y j ++ flat_map (λ z. e m z j) ys) (known.begin r x j p l) (low j l) in
      let later : (j : ℕ) → L j → later_items m (es j) ≡ e m y j ++ flat_map (λ z. e m z j) ys = λ j l. ap (later_items m) (are j l) ∙ later_are r m d (e r x j) (e m y j ++ flat_map (λ z. e m z j) ys) (known.begin r x j p l) (low j l) in
      let some : (j : ℕ) → L j → is_nil (later_items m (es j)) ≡ false = λ j l. ap is_nil (later j l) ∙ begins_some m m d (e m y j) (flat_map (λ z. e m z j) ys) (known.begin m y j ps.0 l) in
      let rest = items_complete known ys y fuel m (λ j. later_items m (es j)) ps.0 ps.1 (omega arith) later in
      rw (known.reads r x (λ j. first_item m (es j)) p first, known.goes (λ j. later_items m (es j)) some, rest) refl

module _ {A B : Type 0} (e : ℕ → A → ℕ → List Entry) (f : ℕ → (ℕ → List Entry) → Option B) (shows : A → B) (P : A → Type 0) (L : ℕ → Type 0) (m : ℕ) (done : (ℕ → List Entry) → Bool) where
  one_found : (r : ℕ) (es : ℕ → List Entry) (q : B) (qs : List B) → Found P L (e r) shows (λ j. first_item m (es j)) q → ((j : ℕ) → L j → later_items m (es j) ≡ []) → q ∷ [] ≡ qs → FoundItems P L (e r) (e m) shows es qs
  one_found r es q qs found none whole = record {
    head = found.one;
    tail = [];
    of = found.of;
    all = tt;
    agree = λ j l. sym (items_joined m (es j)) ∙ (ap (λ zs. first_item m (es j) ++ zs) (none j l) ∙ ap (λ zs. zs ++ []) (found.agree j l));
    is = ap (λ z. z ∷ []) found.is ∙ whole;
  }

  more_found : (r : ℕ) (es : ℕ → List Entry) (q : B) (qs all : List B) → Found P L (e r) shows (λ j. first_item m (es j)) q → FoundItems P L (e m) (e m) shows (λ j. later_items m (es j)) qs → q ∷ qs ≡ all → FoundItems P L (e r) (e m) shows es all
  more_found r es q qs all found rest whole = record {
    head = found.one;
    tail = rest.head ∷ rest.tail;
    of = found.of;
    all = (rest.of, rest.all);
    agree = λ j l. sym (items_joined m (es j)) ∙ (ap (λ zs. zs ++ later_items m (es j)) (found.agree j l) ∙ ap (λ zs. e r found.one j ++ zs) (rest.agree j l));
    is = ap (λ z. z ∷ (shows rest.head ∷ map shows rest.tail)) found.is ∙ (ap (λ zs. q ∷ zs) rest.is ∙ whole);
  }

  pub items_sound : ((r : ℕ) (es : ℕ → List Entry) (q : B) → f r es ≡ Some q → Found P L (e r) shows es q) → ((es : ℕ → List Entry) → done es ≡ true → (j : ℕ) → L j → es j ≡ []) → (fuel r : ℕ) (es : ℕ → List Entry) (qs : List B) → items_read f done m fuel r es ≡ Some qs → FoundItems P L (e r) (e m) shows es qs
  items_sound sound ends zero r es qs h = cc
  items_sound sound ends (suc fuel) r es qs h = by (f r (λ j. first_item m (es j))) (done (λ j. later_items m (es j))) (items_read f done m fuel m (λ j. later_items m (es j))) refl refl (λ all i. items_sound sound ends fuel m (λ j. later_items m (es j)) all i) h
    where
      by : (o : Option B) (b : Bool) (l : Option (List B)) → f r (λ j. first_item m (es j)) ≡ o → done (λ j. later_items m (es j)) ≡ b → ((all : List B) → l ≡ Some all → FoundItems P L (e m) (e m) shows (λ j. later_items m (es j)) all) → with_item o (cond b (Some []) l) ≡ Some qs → FoundItems P L (e r) (e m) shows es qs
      by None b l one end rest whole = cc
      by (Some q) true l one end rest whole = let same : q ∷ [] ≡ qs = cc in one_found r es q qs (sound r (λ j. first_item m (es j)) q one) (ends (λ j. later_items m (es j)) end) same
      by (Some q) false None one end rest whole = cc
      by (Some q) false (Some all) one end rest whole = let same : q ∷ all ≡ qs = cc in more_found r es q all qs (sound r (λ j. first_item m (es j)) q one) (rest all refl) same
