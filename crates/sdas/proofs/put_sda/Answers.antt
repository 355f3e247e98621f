use Rattle.sdas.proofs.Entries.{lower_fits}
use Rattle.sdas.proofs.put_sda.Goals as goal

pub overflow_cast-lower : goal.overflow_cast-lower
overflow_cast-lower c = search (lower_fits)
