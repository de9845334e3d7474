use Rattle.std.proofs.Common.{subst, List, ℕ, map, Bor}
use Rattle.command_words.specs.Reading.{texts_of}
use Rattle.command_parsing.specs.Asking.{IsRefused}
use Rattle.command_parsing.specs.Queries.{AreWrongPaths}
use Rattle.command_parsing.proofs.ReadTexts.{paths_refused}
use Rattle.command_parsing.proofs.query_texts.query_of_texts.Goals as goal

pub returns-in-Err-asked_paths : goal.returns-in-Err-asked_paths
returns-in-Err-asked_paths c =
    let wrong = subst (λ (texts : List (Bor (List ℕ))). IsRefused (AreWrongPaths (map (λ t. t.now) texts)) c.in-Err-asked_paths.fault) c.as_slice.ensures.value c.in-Err-asked_paths.ensures in
    paths_refused (texts_of c.args.texts.now) c.in-Err-asked_paths.fault (_, c.in-Ok.ensures) wrong
