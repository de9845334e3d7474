use Rattle.std.proofs.Common.{◌-◌, true, false, length, arith}
use Rattle.json_strings.specs.Shown.{quote}
use Rattle.json_strings.proofs.Within.{string_there, none_there, none_past}
use Rattle.json_strings.proofs.reader.read_string.Goals as goal

pub returns-else-quoted-clause-text : goal.returns-else-quoted-clause-text
returns-else-quoted-clause-text c =
    string_there c.args.bytes.now c.split_at.result.1.now c.in-Some.text.now c.args.at _ (quote c.in-Ok.quoted) false c.split_at.ensures.back c.in-Some.ensures.cases.0 c.if-first-ne34.false c.in-Ok.ensures.told c.if-quoted.false

pub returns-then-quoted-clause-lone : goal.returns-then-quoted-clause-lone
returns-then-quoted-clause-lone c = λ _. (
  length c.args.bytes.now - length c.in-Ok.quoted.rest.now,
  c.in-Ok.quoted.text,
  string_there c.args.bytes.now c.split_at.result.1.now c.in-Some.text.now c.args.at _ (quote c.in-Ok.quoted) true c.split_at.ensures.back c.in-Some.ensures.cases.0 c.if-first-ne34.false c.in-Ok.ensures.told c.if-quoted.true,
)

pub returns-in-Err-Fault-clause-none : goal.returns-in-Err-Fault-clause-none
returns-in-Err-Fault-clause-none c = λ _.
    none_there c.args.bytes.now c.split_at.result.1.now c.in-Some.text.now c.args.at _ c.split_at.ensures.back c.in-Some.ensures.cases.0 (rw c.in-Err-Fault.field-0-is at c.in-Err-Fault.ensures.told)

pub returns-then-at-bytes-clause-none : goal.returns-then-at-bytes-clause-none
returns-then-at-bytes-clause-none c = λ _. none_past c.args.bytes.now c.args.at (omega arith)
