-- How a call ends: what its parts answer, as the answer of the call.
use Rattle.std.specs.Prelude.{Result, Ok, Err}
use Rattle.outside.specs.declared.sink.SinkError.TheVariants as sink
use Rattle.json_documents.specs.declared.faults.InputFault.{InputFault}
use Rattle.json_documents.specs.declared.faults.InputFault.TheVariants as input
use Rattle.json_documents.specs.declared.faults.Stop.{Stop}
use Rattle.json_documents.specs.declared.faults.Stop.TheVariants.{Input, Taker}
use Rattle.store_write.specs.declared.write_error.First.{First}
use Rattle.store_write.specs.declared.write_error.First.TheVariants as first
use Rattle.store_write.specs.declared.write_error.WriteError.{WriteError}
use Rattle.store_write.specs.declared.write_error.WriteError.TheVariants as write
use Rattle.file_answers.specs.declared.file_error.FileError.{FileError}
use Rattle.file_answers.specs.declared.file_error.FileError.TheVariants as file
use Rattle.variant_store.specs.declared.gatherer.OutputFault.{OutputFault}
use Rattle.variant_store.specs.declared.gatherer.OutputFault.TheVariants as output
use Rattle.command_parsing.specs.declared.fault.WordsFault.{WordsFault}
use Rattle.command_parsing.specs.declared.fault.WordsFault.TheVariants as words
use Rattle.variant_store.specs.declared.command_error.CommandError.{CommandError}
use Rattle.variant_store.specs.declared.command_error.CommandError.TheVariants.{BadWords, BadLine, InputTooLong, FooterFull, BadFile, ReadFault, WriteFault, NoMemory, Absent, Taken}

-- words that give no command
abbrev pub words_error : WordsFault → CommandError
words_error (words.Wrong bad) = BadWords bad
words_error words.NoMemory = NoMemory

abbrev pub input_error : InputFault → CommandError
input_error (input.BadLine line fault) = BadLine line fault
input_error input.InputTooLong = InputTooLong
input_error input.ReadFault = ReadFault
input_error input.NoMemory = NoMemory

abbrev pub output_error : OutputFault → CommandError
output_error output.NoMemory = NoMemory
output_error (output.Write sink.Failed) = WriteFault
output_error (output.Write sink.NoMemory) = NoMemory

-- a command that prints something of each document
abbrev pub stream_end : Result (Unit {0}) (Stop OutputFault) → Result (Unit {0}) CommandError
stream_end (Ok u) = Ok u
stream_end (Err (Input fault)) = Err (input_error fault)
stream_end (Err (Taker fault)) = Err (output_error fault)

abbrev pub first_error : First → CommandError
first_error first.Failed = WriteFault
first_error (first.FooterFull footer_len) = FooterFull
first_error first.NoMemory = NoMemory

abbrev pub write_error : WriteError → CommandError
write_error write.Taken = Taken
write_error write.Failed = WriteFault
write_error (write.FooterFull footer_len) = FooterFull
write_error write.NoMemory = NoMemory
write_error (write.Broken first) = first_error first

-- a command that writes the documents to a file
abbrev pub load_end : Result (Unit {0}) (Stop WriteError) → Result (Unit {0}) CommandError
load_end (Ok u) = Ok u
load_end (Err (Input fault)) = Err (input_error fault)
load_end (Err (Taker fault)) = Err (write_error fault)

-- a command that reads one file: it is the first of the words' files
abbrev pub file_end : Result (Unit {0}) FileError → Result (Unit {0}) CommandError
file_end (Ok u) = Ok u
file_end (Err file.Absent) = Err (Absent 1)
file_end (Err (file.Violated violation)) = Err (BadFile 1 violation.rule violation.place)
file_end (Err file.ReadFault) = Err ReadFault
file_end (Err file.WriteFault) = Err WriteFault
file_end (Err file.NoMemory) = Err NoMemory
