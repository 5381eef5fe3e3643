-- Notices: what a shift notice does to a list of open group numbers.
--   finished    the number of a group that has left
--   renumbered  a group's number after so many groups left in front: a number below becomes finished, another is reduced, finished stays
--   spent       the number in a notice that has been spent
use Rattle.std.specs.Prelude.{ℕ, ◌-◌, ◌==◌, nat_lt, if◌then◌else◌}

abbrev pub finished : ℕ
finished = 4294967295

abbrev pub renumbered : ℕ → ℕ → ℕ
renumbered dropped g = if g == finished then finished else if nat_lt g dropped then finished else g - dropped

abbrev pub spent : ℕ
spent = 4294967295
