-- What a `Content` and a `Quoted` show.
use Rattle.json_strings.specs.Content.{State, Quote}
use Rattle.json_strings.specs.declared.content.Content.{Content}
use Rattle.json_strings.specs.declared.reader.Quoted.{Quoted}

-- what was read so far
abbrev pub state : Content → State
state c = record { text = c.bytes.items; high = c.high; lone = c.lone }

-- what was read in all
abbrev pub quote : Quoted → Quote
quote q = (q.text, q.lone, q.rest.now)
