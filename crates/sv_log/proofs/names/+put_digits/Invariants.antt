-- The measure of `put_digits`.
use Rattle.sv_log.proofs.names.+put_digits.Given as goal

abbrev pub decreases-put_digits : goal.decreases-put_digits
decreases-put_digits l = l.count
