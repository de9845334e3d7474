-- What a `Writer` shows: the bytes so far, and the structs that are open.
use Rattle.std.specs.Prelude.{◌≡◌, ℕ, ◌-◌, Bool, true, false, not, List, [], ◌∷◌, ◌++◌, ℤ, unsigned_abs, length}
use Rattle.thrift_compact.specs.Trees.{Value, Elements, Fields, no_elements, with_element, no_fields, with_field, list_value, struct_value}
use Rattle.thrift_compact.specs.Coded.{elements_coded, fields_coded, how_many}
use Rattle.thrift_compact.specs.declared.writer.Open.{Open}
use Rattle.thrift_compact.specs.declared.writer.Writer.{Writer}

-- the bytes that were written
unfoldable pub bytes_of : Writer → List ℕ
bytes_of writer = writer.bytes.items

-- the id of the last field of the innermost struct, or 0
unfoldable pub last_of : Writer → ℕ
last_of writer = writer.innermost.last

-- the type of the elements of its last list, and how many of them aren't written
unfoldable pub kind_left : Writer → ℕ
kind_left writer = writer.innermost.kind

unfoldable pub left_of : Writer → ℕ
left_of writer = writer.innermost.left

-- the structs around the innermost one, the outermost first
unfoldable pub outer_of : Writer → List Open
outer_of writer = writer.outer.items

-- some struct is open
unfoldable pub is_open : Writer → Bool
is_open writer = not writer.ended

-- What may follow: for each open struct the elements and the fields that are still to come.

abbrev pub Rest : Type 0
Rest = Elements × Fields

-- the bytes of what follows in the outer structs
abbrev pub closing : List Open → List Rest → List ℕ
closing [] rests = []
closing (open_struct ∷ outer) [] = []
closing (open_struct ∷ outer) (rest ∷ rests) = closing outer rests ++ (elements_coded rest.0 ++ fields_coded open_struct.last rest.1)

-- the bytes of the outer struct, if `vs` and `fs` follow in the innermost one, and `rests` in those around it
unfoldable pub finished : Writer → Elements → Fields → List Rest → List ℕ
finished writer vs fs rests = bytes_of writer ++ (elements_coded vs ++ (fields_coded (last_of writer) fs ++ closing (outer_of writer) rests))

-- What a call writes.

-- the same structs are open
pub record IsAsBefore (old new : Writer) : Type 0 where
  pub bytes : bytes_of new ≡ bytes_of old
  pub last : last_of new ≡ last_of old
  pub kind : kind_left new ≡ kind_left old
  pub left : left_of new ≡ left_of old
  pub outer : outer_of new ≡ outer_of old
  pub open_still : is_open new ≡ is_open old

-- a field: what follows it may follow now
pub record WritesField (old new : Writer) (id : ℤ) (v : Value) : Type 0 where
  pub bytes : (fs : Fields) (rests : List Rest) → finished new no_elements fs rests ≡ finished old no_elements (with_field id v fs) rests
  pub last : last_of new ≡ unsigned_abs id
  pub left : left_of new ≡ 0
  pub outer : outer_of new ≡ outer_of old
  pub open_still : is_open new ≡ true

-- an element of the last list
pub record WritesElement (old new : Writer) (v : Value) : Type 0 where
  pub bytes : (vs : Elements) (fs : Fields) (rests : List Rest) → finished new vs fs rests ≡ finished old (with_element v vs) fs rests
  pub last : last_of new ≡ last_of old
  pub kind : kind_left new ≡ kind_left old
  pub left : left_of new ≡ left_of old - 1
  pub outer : outer_of new ≡ outer_of old
  pub open_still : is_open new ≡ true

-- the header of a list: its elements may follow now
pub record WritesList (old new : Writer) (id : ℤ) (kind size : ℕ) : Type 0 where
  pub bytes : (vs : Elements) (fs : Fields) (rests : List Rest) → how_many vs ≡ size → finished new vs fs rests ≡ finished old no_elements (with_field id (list_value kind vs) fs) rests
  pub last : last_of new ≡ unsigned_abs id
  pub kind_is : kind_left new ≡ kind
  pub left : left_of new ≡ size
  pub outer : outer_of new ≡ outer_of old
  pub open_still : is_open new ≡ true

-- a struct inside, whose fields may follow now
pub record BeginsField (old new : Writer) (id : ℤ) : Type 0 where
  pub bytes : (inner fs : Fields) (rests : List Rest) → length rests ≡ length (outer_of old) → finished new no_elements inner (rests ++ (no_elements, fs) ∷ []) ≡ finished old no_elements (with_field id (struct_value inner) fs) rests
  pub last : last_of new ≡ 0
  pub left : left_of new ≡ 0
  pub outer : outer_of new ≡ outer_of old ++ record { last = unsigned_abs id; kind = kind_left old; left = 0 } ∷ []
  pub open_still : is_open new ≡ true

pub record BeginsElement (old new : Writer) : Type 0 where
  pub bytes : (inner : Fields) (vs : Elements) (fs : Fields) (rests : List Rest) → length rests ≡ length (outer_of old) → finished new no_elements inner (rests ++ (vs, fs) ∷ []) ≡ finished old (with_element (struct_value inner) vs) fs rests
  pub last : last_of new ≡ 0
  pub left : left_of new ≡ 0
  pub outer : outer_of new ≡ outer_of old ++ record { last = last_of old; kind = kind_left old; left = left_of old - 1 } ∷ []
  pub open_still : is_open new ≡ true

-- the stop of a struct inside: what follows it may follow now
pub record EndsInner (old new : Writer) (outer : List Open) (around : Open) : Type 0 where
  pub bytes : (vs : Elements) (fs : Fields) (rests : List Rest) → length rests ≡ length outer → finished new vs fs rests ≡ finished old no_elements no_fields (rests ++ (vs, fs) ∷ [])
  pub last : last_of new ≡ around.last
  pub kind : kind_left new ≡ around.kind
  pub left : left_of new ≡ around.left
  pub outer_is : outer_of new ≡ outer
  pub open_still : is_open new ≡ true

-- the stop of the outer struct: nothing follows it
pub record EndsOuter (old new : Writer) : Type 0 where
  pub bytes : bytes_of new ≡ finished old no_elements no_fields []
  pub closed : is_open new ≡ false
