-- The measure of `write` is its number, which falls to its quotient by ten. Assumes nothing.
use Rattle.transcript.proofs.number.U16Piece.+write.Given as goal

abbrev pub decreases-write : goal.decreases-write
decreases-write g l = l.self
