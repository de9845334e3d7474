-- How refusals are told.
use Rattle.std.specs.Prelude.{Option, None, Some, Result, Ok, Err}
use Rattle.shelf.specs.declared.shelf.ShelfError.{ShelfError}
use Rattle.shelf.specs.declared.shelf.ShelfError.TheVariants as shelf
use Rattle.store_write.specs.declared.write_error.First.{First}
use Rattle.store_write.specs.declared.write_error.First.TheVariants as first
use Rattle.store_write.specs.declared.write_error.WriteError.{WriteError}
use Rattle.store_write.specs.declared.write_error.WriteError.TheVariants as error

-- by the call that meets the refusal
abbrev pub refusal_of : First → WriteError
refusal_of first.Failed = error.Failed
refusal_of (first.FooterFull len) = error.FooterFull len
refusal_of first.NoMemory = error.NoMemory

abbrev pub told_of : Result (Unit {0}) First → Result (Unit {0}) WriteError
told_of (Ok done) = Ok done
told_of (Err e) = Err (refusal_of e)

-- the refusal that a writer keeps
abbrev pub refused_in : Result (Unit {0}) First → Option First
refused_in (Ok done) = None
refused_in (Err e) = Some e

-- what a shelf answers to bytes at the end of a file
abbrev pub added_error : ShelfError → WriteError
added_error shelf.NoMemory = error.NoMemory
added_error other = error.Failed
