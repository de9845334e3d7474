-- The fields of a struct, one after the other, in their slots.
use Rattle.std.proofs.Common.{◌≡◌, refl, ℕ, suc, ◌+◌, ◌-◌, ◌<◌, ◌≤◌, List, ℤ, Option, None, Some, Ok, Err, arith}
use Rattle.vs_bytes.specs.Outcome.{◌>>=◌}
use Rattle.vs_bytes.specs.declared.rule.Rule.TheVariants.{Thrift}
use Rattle.thrift_compact.specs.Numbers.{Read, mapped}
use Rattle.thrift_compact.specs.Headers.{field}
use Rattle.thrift_compact.specs.Trees.{Value, Fields, with_field, FieldRead, one_field, fields_at}
use Rattle.thrift_compact.specs.Slots.{filled, read_by}

-- one field, and the fields after it
abbrev pub fill_next : {D : Type 0} → (D → ℤ → Value → D) → D → FieldRead → ℕ → Option (ℤ × ℕ) → List ℕ → Read D
fill_next put d read most None bytes = Ok (d, bytes)
fill_next put d read most (Some head) bytes = mapped (put d head.0) (read head.0 head.1 bytes) >>= λ p. mapped (filled put p.0) (fields_at read most head.0 p.1)

pub turn : {D : Type 0} (put : D → ℤ → Value → D) (d : D) (read : FieldRead) (len i : ℕ) (last : ℤ) (bytes : List ℕ) → i < len → mapped (filled put d) (fields_at read (len - i) last bytes) ≡ (field last bytes >>= λ h. fill_next put d read (len - (i + 1)) h.0 h.1)
unfolding fields_at filled
turn {D = D} put d read len i last bytes h =
    let e : len - i ≡ suc (len - (i + 1)) = omega (arith, h) in
    rw e (by (field last bytes))
  where
    most : ℕ
    most = len - (i + 1)

    after_fields : (id : ℤ) (v : Value) (more : Read Fields) → mapped (filled put d) (mapped (with_field id v) more) ≡ mapped (filled put (put d id v)) more
    after_fields id v (Ok fs) = refl
    after_fields id v (Err fault) = refl

    after_value : (id : ℤ) (own : Read Value) → mapped (filled put d) (own >>= λ v. mapped (with_field id v.0) (fields_at read most id v.1)) ≡ (mapped (put d id) own >>= λ p. mapped (filled put p.0) (fields_at read most id p.1))
    after_value id (Ok v) = after_fields id v.0 (fields_at read most id v.1)
    after_value id (Err fault) = refl

    by : (head : Read (Option (ℤ × ℕ))) → mapped (filled put d) (head >>= λ f. one_field read (fields_at read most) f.0 f.1) ≡ (head >>= λ f. fill_next put d read most f.0 f.1)
    by (Ok (None, rest)) = refl
    by (Ok (Some f, rest)) = after_value f.0 (read f.0 f.1 rest)
    by (Err fault) = refl

pub end : {D : Type 0} (put : D → ℤ → Value → D) (d : D) (read : FieldRead) (len i : ℕ) (last : ℤ) (bytes : List ℕ) → len ≤ i → mapped (filled put d) (fields_at read (len - i) last bytes) ≡ Err Thrift
unfolding fields_at filled
end put d read len i last bytes h =
    let e : len - i ≡ 0 = omega (arith, h) in
    rw e refl

-- a struct by its slots
pub read_is : {D A : Type 0} (put : D → ℤ → Value → D) (start : D) (finish : D → Option A) (read : Read Fields) → mapped (read_by put start finish) read ≡ mapped finish (mapped (filled put start) read)
read_is put start finish (Ok fs) = refl
read_is put start finish (Err fault) = refl
