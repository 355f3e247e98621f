use Rattle.std.proofs.Common.{rules}
use Rattle.std.proofs.lemmas.List.{map-set}
use Rattle.tables.proofs.Tables.describe.Goals as goal

pub returns-clause-starts : goal.returns-clause-starts
returns-clause-starts c = search (rules, map-set)

pub returns-clause-sizes : goal.returns-clause-sizes
returns-clause-sizes c = search (rules, map-set)

pub returns-clause-entries : goal.returns-clause-entries
returns-clause-entries c = search (rules, map-set)
