-- A footer that is too long with a group stays too long.
use Rattle.std.proofs.Common.{◌≡◌, ◌∙◌, refl, sym, ap, ℕ, List, [], ◌∷◌, ◌++◌, Bool, true, false, cond, fold, Ok, Err, append_assoc, append-nil}
use Rattle.store_write.specs.Cutting.{Cut, with_row, cut_of, with_last}
use Rattle.store_write.specs.Frames.{Format, begun, close, body_of, with_ending, made}

fold_append : {A B : Type 0} (f : A → B → A) (a : A) (xs ys : List B) → fold f a (xs ++ ys) ≡ fold f (fold f a xs) ys
fold_append f a [] ys = refl
fold_append f a (x ∷ xs) ys = fold_append f (f a x) xs ys

fails : {Row Meta : Type 0} (f : Format Row Meta) (n : ℕ) (gs : List (List Row)) → fold (close f) (Err n) gs ≡ Err n
fails f n [] = refl
fails f n (g ∷ gs) = fails f n gs

-- the groups of more rows are these groups, and more
pub record Closes {Row : Type 0} (c d : Cut Row) : Type 0 where
  pub more : List (List Row)
  pub closed : d.closed ≡ c.closed ++ more

closes_row : {Row : Type 0} (b : Bool) (c : Cut Row) (row : Row) → Closes c (cond b (record { closed = c.closed ++ (c.rest ++ row ∷ []) ∷ []; rest = [] }) (record { closed = c.closed; rest = c.rest ++ row ∷ [] }))
closes_row true c row = record { more = (c.rest ++ row ∷ []) ∷ []; closed = refl }
closes_row false c row = record { more = []; closed = sym (append-nil c.closed) }

closes_rows : {Row Meta : Type 0} (f : Format Row Meta) (c : Cut Row) (rows : List Row) → Closes c (fold (with_row f.is_full) c rows)
closes_rows f c [] = record { more = []; closed = sym (append-nil c.closed) }
closes_rows f c (row ∷ rows) =
    let first = closes_row (f.is_full (c.rest ++ row ∷ [])) c row in
    let others = closes_rows f (with_row f.is_full c row) rows in
    record { more = first.more ++ others.more; closed = others.closed ∙ ap (λ gs. gs ++ others.more) first.closed ∙ append_assoc c.closed first.more others.more }

closes_more : {Row Meta : Type 0} (f : Format Row Meta) (rows more : List Row) → Closes (cut_of f.is_full rows) (cut_of f.is_full (rows ++ more))
unfolding cut_of
closes_more {Row = Row} f rows more =
    let step = closes_rows f (cut_of f.is_full rows) more in
    record { more = step.more; closed = ap (λ (c : Cut Row). c.closed) (fold_append (with_row f.is_full) (record { closed = []; rest = [] }) rows more) ∙ step.closed }

all_groups : {Row : Type 0} (closed : List (List Row)) (rest : List Row) → Closes (record { closed = closed; rest = [] }) (record { closed = with_last closed rest; rest = [] })
all_groups closed [] = record { more = []; closed = sym (append-nil closed) }
all_groups closed (row ∷ rest) = record { more = (row ∷ rest) ∷ []; closed = refl }

body_fails : {Row Meta : Type 0} (f : Format Row Meta) (n : ℕ) (gs hs : List (List Row)) → body_of f gs ≡ Err n → body_of f (gs ++ hs) ≡ Err n
unfolding body_of
body_fails f n gs hs e = fold_append (close f) (Ok begun) gs hs ∙ ap (λ b. fold (close f) b hs) e ∙ fails f n hs

pub long_stays : {Row Meta : Type 0} (f : Format Row Meta) (n : ℕ) (rows more : List Row) → body_of f (cut_of f.is_full rows).closed ≡ Err n → made f (rows ++ more) ≡ Err n
long_stays f n rows more e =
    let first = closes_more f rows more in
    let last = all_groups (cut_of f.is_full (rows ++ more)).closed (cut_of f.is_full (rows ++ more)).rest in
    ap (with_ending f) (ap (body_of f) (last.closed ∙ ap (λ gs. gs ++ last.more) first.closed ∙ append_assoc (cut_of f.is_full rows).closed first.more last.more) ∙ body_fails f n (cut_of f.is_full rows).closed (first.more ++ last.more) e)
