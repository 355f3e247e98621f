-- `listing::size_in` meets its contract.
-- Assumes nothing.
use borrow.Author.Rules.{rules}
use Rattle.listing.proofs.File.{four_bytes_lem}
use Rattle.listing.proofs.size_in.Goals as goal

pub returns : goal.returns
returns c = search (rules, four_bytes_lem)
