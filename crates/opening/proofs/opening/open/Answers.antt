-- `opening::opening::open`: what is in range fits the words.
use mathlib.Core.Path.{sym}
use native.Mathlib.Omega.{arith}
use Rattle.opening.proofs.OpenLaws.{small}
use Rattle.opening.proofs.opening.open.Goals as goal

pub overflow_cast-plugins : goal.overflow_cast-plugins
overflow_cast-plugins g c = omega (arith, (small c.args.year c.args.n c.args.k (sym c.if-not-open_in_range.ensures)).n_most)

pub overflow_cast-year : goal.overflow_cast-year
overflow_cast-year g c = omega (arith, (small c.args.year c.args.n c.args.k (sym c.if-not-open_in_range.ensures)).year_most)

pub overflow_cast-k : goal.overflow_cast-k
overflow_cast-k g c = omega (arith, (small c.args.year c.args.n c.args.k (sym c.if-not-open_in_range.ensures)).k_most)

pub opening_words-requires : goal.opening_words-requires
opening_words-requires g c = (small c.args.year c.args.n c.args.k (sym c.if-not-open_in_range.ensures)).k_most
