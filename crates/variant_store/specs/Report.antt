-- Why a call ends with another status than 0: the status, and the line that the error output gains.
use Rattle.std.specs.Prelude.{◌≡◌, ◌⊎◌, ℕ, List, [], ◌++◌, codes, decimal}
use Rattle.std.specs.Io.KnownBytes.{Appends}
use Rattle.outside.specs.Devices.{Device, IsCalm, Fails, AppendsPart}
use Rattle.exact_json.specs.Faults.{name_of}
use Rattle.vs_bytes.specs.RuleNames as rules
use Rattle.command_parsing.specs.declared.fault.BadWords.TheVariants.{Usage, BadSchema, BadFilter, BadOrder, BadPath, RepeatedPath}
use Rattle.variant_store.specs.declared.command_error.CommandError.{CommandError}
use Rattle.store_file.specs.declared.file_faults.Place.{Place}
use Rattle.store_file.specs.declared.file_faults.Place.TheVariants as place
use Rattle.variant_store.specs.declared.command_error.CommandError.TheVariants.{BadWords, BadLine, InputTooLong, FooterFull, BadFile, ReadFault, WriteFault, NoMemory, Absent, Taken}

abbrev pub status_of : CommandError → ℕ
status_of (BadWords bad) = 2
status_of (BadLine line fault) = 3
status_of InputTooLong = 3
status_of FooterFull = 3
status_of (BadFile file rule place) = 4
status_of ReadFault = 5
status_of WriteFault = 6
status_of NoMemory = 7
status_of (Absent file) = 8
status_of Taken = 9

-- where in a file a rule is violated: nothing for the file as a whole, or the group with the leaf or the row. All are counted from 0
abbrev pub place_text : Place → List ℕ
place_text place.File = []
place_text (place.Chunk group leaf) = codes " group " ++ decimal group ++ codes " leaf " ++ decimal leaf
place_text (place.Row group row) = codes " group " ++ decimal group ++ codes " row " ++ decimal row

-- the line, with its LF
abbrev pub message_of : CommandError → List ℕ
message_of (BadWords Usage) = codes "vstore: usage\n"
message_of (BadWords BadSchema) = codes "vstore: bad schema\n"
message_of (BadWords BadFilter) = codes "vstore: bad filter\n"
message_of (BadWords BadOrder) = codes "vstore: bad order\n"
message_of (BadWords BadPath) = codes "vstore: bad path\n"
message_of (BadWords RepeatedPath) = codes "vstore: repeated path\n"
message_of (BadLine line fault) = codes "vstore: line " ++ decimal line ++ codes ": " ++ name_of fault ++ codes "\n"
message_of InputTooLong = codes "vstore: input too long\n"
message_of FooterFull = codes "vstore: footer full\n"
message_of (BadFile file rule place) = codes "vstore: file " ++ decimal file ++ codes ": " ++ rules.name_of rule ++ place_text place ++ codes "\n"
message_of ReadFault = codes "vstore: read fault\n"
message_of WriteFault = codes "vstore: write fault\n"
message_of NoMemory = codes "vstore: no memory\n"
message_of (Absent file) = codes "vstore: absent file " ++ decimal file ++ codes "\n"
message_of Taken = codes "vstore: taken\n"

-- the whole line was written, or a part of it where the error output failed
abbrev pub Reports : CommandError → Device → Device → Type 0
Reports error err err_now = (Appends err.bytes err_now.bytes (message_of error) × IsCalm err err_now) ⊎ (AppendsPart err.bytes err_now.bytes (message_of error) × Fails err err_now)

-- there was no memory to write the whole line
abbrev pub ReportsPart : CommandError → Device → Device → Type 0
ReportsPart error err err_now = AppendsPart err.bytes err_now.bytes (message_of error) × IsCalm err err_now

-- the status is the error's, unless there was no memory for its line
abbrev pub IsReported : CommandError → ℕ → Device → Device → Type 0
IsReported error status err err_now = ((status ≡ status_of error) × Reports error err err_now) ⊎ ((status ≡ 7) × ReportsPart error err err_now)
