use Rattle.std.proofs.Common.{[], ◌∷◌, ◌++◌, Err}
use Rattle.thrift_footer.specs.Opening.{range, end_ranges, opening_ranges, begin_of}
use Rattle.thrift_footer.proofs.Asking.{Plan, asks_same, asks_passed, asks_then, file_stays}
use Rattle.thrift_footer.proofs.Ends.{opened_is, footer_fails, size_fails, ranges_are, asks_ended}
use Rattle.thrift_footer.proofs.opening.open_long.Goals as goal

pub returns-in-Err-clause-asks : goal.returns-in-Err-clause-asks
returns-in-Err-clause-asks g c = asks_ended _ _ c.args.name.now c.args.len c.in-Err.fault c.requires.known c.in-Err.ensures.exact c.in-Err.ensures.there c.in-Err.ensures.asks

pub returns-in-Err-clause-exact : goal.returns-in-Err-clause-exact
returns-in-Err-clause-exact g c = λ file k. size_fails file c.in-Err.fault (c.in-Err.ensures.exact file k)

pub returns-in-Ok-read_meta-clause-exact : goal.returns-in-Ok-read_meta-clause-exact
returns-in-Ok-read_meta-clause-exact g c = λ file k.
    opened_is file c.args.len c.in-Ok.size _ (c.requires.known file k) (c.in-Ok.ensures.exact file k) (c.in-Ok-read_meta.ensures.exact file (file_stays _ _ c.args.name.now _ _ file c.in-Ok.ensures.asks k))

pub returns-in-Err-read_meta-clause-asks : goal.returns-in-Err-read_meta-clause-asks
returns-in-Err-read_meta-clause-asks g c =
    let name = c.args.name.now in
    let p : Plan = λ file. end_ranges name c.args.len in
    let q : Plan = λ file. range name (begin_of c.args.len c.in-Ok.size) c.in-Ok.size ∷ [] in
    let all = asks_then _ _ _ name p q _ (Err c.in-Err-read_meta.fault) c.in-Err-read_meta.ensures.there c.in-Ok.ensures.asks c.in-Err-read_meta.ensures.asks in
    asks_passed _ _ name (opening_ranges name) c.in-Err-read_meta.fault (asks_same _ _ name (λ file. p file ++ q file) (opening_ranges name) _ (λ file k. ranges_are name file c.args.len c.in-Ok.size (c.requires.known file k) (c.in-Ok.ensures.exact file k)) all)

pub returns-in-Err-read_meta-clause-exact : goal.returns-in-Err-read_meta-clause-exact
returns-in-Err-read_meta-clause-exact g c = λ file k.
    footer_fails file c.args.len c.in-Ok.size c.in-Err-read_meta.fault (c.requires.known file k) (c.in-Ok.ensures.exact file k) (c.in-Err-read_meta.ensures.exact file (file_stays _ _ c.args.name.now _ _ file c.in-Ok.ensures.asks k))
