use Rattle.cv_writing.proofs.Rereads.{read_again}
use Rattle.cv_writing.proofs.writing.reads_again.Goals as goal

pub returns : goal.returns
returns c = read_again
