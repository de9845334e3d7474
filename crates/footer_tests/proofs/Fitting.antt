-- What can be written.
use Rattle.std.proofs.Common.{refl, List, [], ◌∷◌, ◌++◌, pos, None, Some, arith}
use Rattle.std.proofs.lemmas.Bool.Decides.{nat_tests}
use Rattle.std.specs.List.{All}
use Rattle.std.proofs.lemmas.List.Elements.{All-nil, All-cons, All-append}
use Rattle.thrift_structs.specs.Listed.{ListFits}
use Rattle.thrift_structs.specs.ChunkWriting.{ChunkFits}
use Rattle.thrift_structs.specs.declared.column_chunks.ChunkMeta.{ChunkMeta}
use Rattle.schema_elements.specs.ElementWriting.{IsLogical, ElementFits}
use Rattle.schema_elements.specs.declared.elements.SchemaElement.{SchemaElement}
use Rattle.footer_structs.specs.FooterWriting.{GroupFits}

-- VARIANT of version 1
pub variant_is : IsLogical (record { member = pos 16; first = Some (pos 1); second = None })
variant_is = record {
  known = refl;
  decimal = λ e. absurd (let no : ⊥ = cc in no);
  time = λ e. absurd (let no : ⊥ = cc in no);
  integer = λ e. absurd (let no : ⊥ = cc in no);
  variant = λ e. ((grind (arith, nat_tests), grind (arith, nat_tests)), tt);
  plain = λ e. absurd (let no : ⊥ = cc in no);
}

pub one_more : (es : List SchemaElement) (e : SchemaElement) → All ElementFits es → ElementFits e → All ElementFits (es ++ e ∷ [])
one_more es e a h = All-append ElementFits es (e ∷ []) a (All-cons ElementFits e [] h (All-nil ElementFits))

pub none_fit : All ElementFits []
none_fit = All-nil ElementFits

pub no_groups : ListFits GroupFits []
no_groups = record { size = omega arith; each = All-nil GroupFits }

pub one_chunk : (m : ChunkMeta) → ChunkFits m → ListFits ChunkFits (m ∷ [])
one_chunk m h = record { size = omega arith; each = All-cons ChunkFits m [] h (All-nil ChunkFits) }
