use Rattle.store_laws.proofs.MadeFiles.{file_valid, file_column, file_groups, file_honest, file_ranges}
use Rattle.store_laws.proofs.laws.made_files_are_valid.Goals as goal

pub returns-clause-valid : goal.returns-clause-valid
returns-clause-valid c = file_valid

pub returns-clause-column : goal.returns-clause-column
returns-clause-column c = λ settings text n rows file opened chosen schema documents is opens_as. file_column settings text n rows file chosen schema documents is opened opens_as

pub returns-clause-honest : goal.returns-clause-honest
returns-clause-honest c = file_honest

pub returns-clause-ranges : goal.returns-clause-ranges
returns-clause-ranges c = file_ranges

pub returns-clause-groups : goal.returns-clause-groups
returns-clause-groups c = λ settings text n rows file opened chosen schema documents is opens_as. file_groups settings text n rows file chosen schema documents is opened opens_as
