-- Whole texts, as the parser reads them.
use Rattle.std.proofs.Common.{◌≡◌, refl, subst, ℕ, List, Option, Some, None, Err}
use Rattle.std.specs.Option.{option_map}
use Rattle.vs_bytes.specs.Outcome.{Reads}
use Rattle.vs_bytes.specs.declared.refused.Absent.{Absent}
use Rattle.vs_bytes.specs.declared.refused.Refused.{Refused}
use Rattle.vs_bytes.specs.declared.refused.Refused.TheVariants.{Fault, NoMemory}
use Rattle.query_tree.specs.Formula.{Formula}
use Rattle.filter_parsing.specs.Grammar.{FilterSyntax, formula_of, IsFilter}
use Rattle.filter_parsing.specs.Reading.{filter_at}
use Rattle.filter_parsing.specs.Parses.{Parses}
use Rattle.filter_parsing.proofs.Texts.{is_filter, no_filter}

unread_formula : (o : Option FilterSyntax) → option_map formula_of o ≡ None → o ≡ None
unread_formula None e = refl
unread_formula (Some w) e = cc

pub reads_filter : (text : List ℕ) (f : Formula) → option_map formula_of (filter_at text) ≡ Some f → IsFilter text f
reads_filter text f e = by (filter_at text) refl e
  where
    by : (o : Option FilterSyntax) → filter_at text ≡ o → option_map formula_of o ≡ Some f → IsFilter text f
    by None g h = cc
    by (Some w) g h =
        let same : formula_of w ≡ f = cc in
        subst (λ x. IsFilter text x) same (is_filter text w g)

pub refused_is : {A B : Type 0} (view : A → Formula) (other : B → Formula) (refused : Refused Absent) (text : List ℕ) → Reads {F = Absent} view (Err refused) (option_map formula_of (filter_at text)) → Parses other text (Err refused)
refused_is view other (Fault fault) text h = no_filter text (unread_formula (filter_at text) h)
refused_is view other NoMemory text h = tt
