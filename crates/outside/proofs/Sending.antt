-- Lemmas on output that is gathered before it is written.
use Rattle.std.proofs.Common.{◌≡◌, ◌∙◌, ℕ, ◌+◌, ◌≤◌, List, [], ◌∷◌, ◌++◌, Option, None, Some, Result, Ok, Err, take, length, refl, sym, ap, subst, arith, append_assoc, append-nil, length-append}
use Rattle.std.proofs.KnownBytes.{Appends-nil, Appends-trans}
use Rattle.std.proofs.lemmas.List.{take-append-le}
use Rattle.std.proofs.Math.Seq.{take-append-add}
use Rattle.std.specs.Io.KnownBytes.{Appends, append_known}
use Rattle.outside.specs.Devices.{Device, IsCalm, Rose, Extends, AppendsPrefix}
use Rattle.outside.specs.Calls.{Broke}
use Rattle.outside.specs.Output.{Output, output_of, Sends, Breaks, Puts}
use Rattle.outside.specs.declared.sink.SinkError.{SinkError}
use Rattle.outside.specs.declared.sink.SinkError.TheVariants as sink

-- ---- lists

same_back : (a xs ys : List ℕ) → a ++ xs ≡ a ++ ys → xs ≡ ys
same_back [] xs ys e = e
same_back (x ∷ a) xs ys e = same_back a xs ys cc

extends-trans : (a b c : Option (List ℕ)) → Extends a b → Extends b c → Extends a c
extends-trans a b c f g = (f.0 ++ g.0, Appends-trans a b c f.0 g.0 f.1 g.1)

pub prefix_more : (old new : Option (List ℕ)) (bytes more : List ℕ) → AppendsPrefix old new bytes → AppendsPrefix old new (bytes ++ more)
prefix_more old new bytes more p =
    (p.0, omega (arith, p.1, length-append bytes more), subst (λ (s : List ℕ). Appends old new s) (sym (take-append-le p.0 bytes more p.1)) p.2)

-- what is gathered grows by what is gathered after it
gathers_more : (a b c : Option (List ℕ)) (p q r xs ys : List ℕ) → Appends a (append_known b q) (p ++ xs) → Appends b (append_known c r) (q ++ ys) → Appends a (append_known c r) (p ++ (xs ++ ys))
gathers_more None b c p q r xs ys f g = tt
gathers_more (Some a) None c p q r xs ys f g = absurd f
gathers_more (Some a) (Some b) None p q r xs ys f g = absurd g
gathers_more (Some a) (Some b) (Some c) p q r xs ys f g =
    g ∙ sym (append_assoc b q ys) ∙ ap (λ (s : List ℕ). s ++ ys) f ∙ append_assoc a (p ++ xs) ys ∙ ap (λ (s : List ℕ). a ++ s) (append_assoc p xs ys)

-- what was written of `whole` grows by a prefix of what is pending of it and of more
take_both : (bs rest : List ℕ) (k : ℕ) → k ≤ length rest → take (length bs + k) (bs ++ rest) ≡ bs ++ take k rest
take_both bs rest k fits = take-append-add bs rest k

part_more : (a b c : Option (List ℕ)) (p q xs ys : List ℕ) → Extends a b → Appends a (append_known b q) (p ++ xs) → AppendsPrefix b c (q ++ ys) → AppendsPrefix a c (p ++ (xs ++ ys))
part_more None b c p q xs ys x g h = (0, omega arith, tt)
part_more (Some a) None c p q xs ys x g h = absurd x.1
part_more (Some a) (Some b) None p q xs ys x g h = absurd h.2
part_more (Some a) (Some b) (Some c) p q xs ys x g h =
    let bs = x.0 in
    let k = h.0 in
    let whole : bs ++ q ≡ p ++ xs = same_back a (bs ++ q) (p ++ xs) (sym (append_assoc a bs q) ∙ ap (λ (s : List ℕ). s ++ q) (sym x.1) ∙ g) in
    let all : bs ++ (q ++ ys) ≡ p ++ (xs ++ ys) = sym (append_assoc bs q ys) ∙ ap (λ (s : List ℕ). s ++ ys) whole ∙ append_assoc p xs ys in
    let front : take (length bs + k) (p ++ (xs ++ ys)) ≡ bs ++ take k (q ++ ys) = ap (take (length bs + k)) (sym all) ∙ take_both bs (q ++ ys) k h.1 in
    let fits : length bs + k ≤ length (p ++ (xs ++ ys)) = omega (arith, h.1, ap length all, length-append bs (q ++ ys)) in
    (length bs + k, fits, h.2 ∙ ap (λ (s : List ℕ). s ++ take k (q ++ ys)) x.1 ∙ append_assoc a bs (take k (q ++ ys)) ∙ ap (λ (s : List ℕ). a ++ s) (sym front))

-- ---- one thing sent after another

pub sends_then : (a b c : Output) (xs ys : List ℕ) → Sends a b xs → Sends b c ys → Sends a c (xs ++ ys)
sends_then a b c xs ys f g = record {
  gathers = gathers_more a.device.bytes b.device.bytes c.device.bytes a.pending b.pending c.pending xs ys f.gathers g.gathers;
  extends = extends-trans a.device.bytes b.device.bytes c.device.bytes f.extends g.extends;
  calm = g.calm ∙ f.calm;
}

broke_later : (a b c : Device) (fault : SinkError) → IsCalm a b → Broke b c fault → Broke a c fault
broke_later a b c sink.Failed calm broke = record {
  later = omega (arith, calm, broke.later);
  rose = subst (λ (n : ℕ). Rose n c.faults) calm broke.rose;
}
broke_later a b c sink.NoMemory calm broke = broke ∙ calm

pub sends_breaks : (a b c : Output) (xs ys : List ℕ) (fault : SinkError) → Sends a b xs → Breaks b c ys fault → Breaks a c (xs ++ ys) fault
sends_breaks a b c xs ys fault f g = record {
  part = part_more a.device.bytes b.device.bytes c.device.bytes a.pending b.pending xs ys f.extends f.gathers g.part;
  broke = broke_later a.device b.device c.device fault f.calm g.broke;
}

pub breaks_more : (a b : Output) (xs more : List ℕ) (fault : SinkError) → Breaks a b xs fault → Breaks a b (xs ++ more) fault
breaks_more a b xs more fault f = record {
  part = subst (λ (s : List ℕ). AppendsPrefix a.device.bytes b.device.bytes s) (append_assoc a.pending xs more) (prefix_more a.device.bytes b.device.bytes (a.pending ++ xs) more f.part);
  broke = f.broke;
}

-- bytes are gathered, and then nothing more is put out but what is pending
pub puts_gathered : (a b : Output) (bytes mid : List ℕ) (r : Result (Unit {0}) SinkError) → mid ≡ a.pending ++ bytes → Puts (output_of a.device mid) b [] r → Puts a b bytes r
puts_gathered a b bytes mid (Ok _) e p = record {
  gathers = subst (λ (s : List ℕ). Appends a.device.bytes (append_known b.device.bytes b.pending) s) (append-nil mid ∙ e) p.gathers;
  extends = p.extends;
  calm = p.calm;
}
puts_gathered a b bytes mid (Err fault) e p = record {
  part = subst (λ (s : List ℕ). AppendsPrefix a.device.bytes b.device.bytes s) (append-nil mid ∙ e) p.part;
  broke = p.broke;
}

-- ---- from the first byte on

known_nil : (o : Option (List ℕ)) → append_known o [] ≡ o
known_nil None = refl
known_nil (Some xs) = ap (λ (s : List ℕ). Some s) (append-nil xs)

-- nothing was pending, and nothing is
pub all_sent : (a b : Output) (bytes : List ℕ) → a.pending ≡ [] → b.pending ≡ [] → Sends a b bytes → Appends a.device.bytes b.device.bytes bytes
all_sent a b bytes e f s =
    let now : append_known b.device.bytes b.pending ≡ b.device.bytes = ap (append_known b.device.bytes) f ∙ known_nil b.device.bytes in
    subst (λ (o : Option (List ℕ)). Appends a.device.bytes o bytes) now (subst (λ (p : List ℕ). Appends a.device.bytes (append_known b.device.bytes b.pending) (p ++ bytes)) e s.gathers)

-- nothing was pending, and what was written is a prefix
pub part_sent : (a b : Output) (bytes : List ℕ) → a.pending ≡ [] → Sends a b bytes → AppendsPrefix a.device.bytes b.device.bytes bytes
part_sent a b bytes e s =
    subst (λ (xs : List ℕ). AppendsPrefix a.device.bytes b.device.bytes xs) (ap (λ (p : List ℕ). p ++ (bytes ++ [])) e ∙ append-nil bytes)
    (part_more a.device.bytes b.device.bytes b.device.bytes a.pending b.pending bytes [] s.extends s.gathers (0, omega arith, Appends-nil b.device.bytes))

-- nothing was pending, and a write was refused
pub part_broke : (a b : Output) (bytes : List ℕ) (fault : SinkError) → a.pending ≡ [] → Breaks a b bytes fault → AppendsPrefix a.device.bytes b.device.bytes bytes
part_broke a b bytes fault e s = subst (λ (p : List ℕ). AppendsPrefix a.device.bytes b.device.bytes (p ++ bytes)) e s.part
