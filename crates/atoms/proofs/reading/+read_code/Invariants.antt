use Rattle.std.proofs.Common.{length}
use Rattle.atoms.proofs.reading.+read_code.Given as goal

-- the numbers that are left
abbrev pub decreases-read_code : goal.decreases-read_code
decreases-read_code g l = length l.code.now
