-- The bytes of a file that is written group by group (the parquet-format README, "File format"): the magic number, the
-- chunks of the groups, the footer, its length, and the magic number again. How rows, chunks and footers become bytes
-- is an argument.
use Rattle.std.specs.Prelude.{ℕ, List, [], ◌∷◌, ◌++◌, Bool, cond, nat_le, length, fold, Result, Ok, Err}
use Rattle.std.specs.List.{concat}
use Rattle.footer_structs.specs.FileEnds.{magic, footer_limit}
use Rattle.closed_groups.specs.ClosedGroups.{ending_of}
use Rattle.store_write.specs.Cutting.{cut_of, groups_of}

-- how rows become a file: which rows fill a group, the chunks of a group's rows, the group's struct in the footer where
-- its first byte has a place, and the bytes of the footer of all groups
pub record Format (Row Meta : Type 0) : Type 0 where
  pub is_full : List Row → Bool
  pub chunks : List Row → List (List ℕ)
  pub meta : ℕ → List Row → Meta
  pub footer : List Meta → List ℕ

-- a file without its footer
pub record Body (Meta : Type 0) : Type 0 where
  pub bytes : List ℕ
  pub metas : List Meta

abbrev pub begun : {Meta : Type 0} → Body Meta
begun = record { bytes = magic; metas = [] }

module _ {Row Meta : Type 0} (f : Format Row Meta) where
  -- the structs of the groups, with one more
  abbrev pub more_metas : Body Meta → List Row → List Meta
  more_metas b rows = b.metas ++ f.meta (length b.bytes) rows ∷ []

  -- a group closes, unless the footer would be too long: then what would be its length is all that is left
  abbrev pub closed : Body Meta → List Row → ℕ → Result (Body Meta) ℕ
  closed b rows footer_len = cond (nat_le footer_len footer_limit)
      (Ok (record { bytes = b.bytes ++ concat (f.chunks rows); metas = more_metas b rows }))
      (Err footer_len)

  abbrev pub close : Result (Body Meta) ℕ → List Row → Result (Body Meta) ℕ
  close (Ok b) rows = closed b rows (length (f.footer (more_metas b rows)))
  close (Err footer_len) rows = Err footer_len

  unfoldable pub body_of : List (List Row) → Result (Body Meta) ℕ
  body_of groups = fold close (Ok begun) groups

  abbrev pub with_ending : Result (Body Meta) ℕ → Result (List ℕ) ℕ
  with_ending (Ok b) = Ok (b.bytes ++ ending_of (f.footer b.metas))
  with_ending (Err footer_len) = Err footer_len

  -- the bytes of the file of rows, or the length that the footer would have with a group that closes
  abbrev pub made : List Row → Result (List ℕ) ℕ
  made rows = with_ending (body_of (groups_of (cut_of f.is_full rows)))
