-- The constants obey their rule: they are the first bits of the cube roots of the first 64 primes, the initial words
-- those of the square roots of the first eight. All of it is computed.
use Rattle.std.proofs.Common.{◌≡◌, true, take, refl}
use Rattle.sha256.specs.Constants.{constants, initial}
use Rattle.sha256.specs.Roots.{undivided, is_prime, primes_among, primes, whole_root, root_bits, all_root_bits, word_list}

-- the primes from 2 to 311, which are sixty-four
pub primes_all : primes_among 310 2 ≡ primes
unfolding primes_among is_prime undivided primes
primes_all = refl

pub constants_rule : all_root_bits 3 primes constants ≡ true
unfolding all_root_bits root_bits whole_root primes constants
constants_rule = refl

pub initial_rule : all_root_bits 2 (take 8 primes) (word_list initial) ≡ true
unfolding all_root_bits root_bits whole_root primes initial
initial_rule = refl
