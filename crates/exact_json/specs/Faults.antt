-- The printed names of faults.
use Rattle.std.specs.Prelude.{ℕ, List, codes}
use Rattle.exact_json.specs.declared.fault.DocFault.{DocFault}
use Rattle.exact_json.specs.declared.fault.DocFault.TheVariants.{LineTooLong, NotUtf8, TooDeep, NotJson, LoneSurrogate, DuplicateKey, NumberTooWide, NoMemory}

abbrev pub name_of : DocFault → List ℕ
name_of LineTooLong = codes "LineTooLong"
name_of NotUtf8 = codes "NotUtf8"
name_of TooDeep = codes "TooDeep"
name_of NotJson = codes "NotJson"
name_of LoneSurrogate = codes "LoneSurrogate"
name_of DuplicateKey = codes "DuplicateKey"
name_of NumberTooWide = codes "NumberTooWide"
name_of NoMemory = codes "NoMemory"
