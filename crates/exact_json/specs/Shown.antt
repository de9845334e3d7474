-- What a `Seen` shows.
use Rattle.exact_json.specs.Meaning.{Flaws}
use Rattle.exact_json.specs.declared.seen.Seen.{Seen}

abbrev pub shown : Seen → Flaws
shown s = record { lone = s.lone; repeated = s.repeated; wide = s.wide }
