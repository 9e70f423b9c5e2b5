-- The paper's value for each case of the enum.
use Rattle.semantics.specs.Solo as Paper
use Rattle.solo_replay.specs.declared.Solo.{Solo}
use Rattle.solo_replay.specs.declared.Solo.TheVariants.{Solves, Breaks, Short}

abbrev pub solo_of : Solo → Paper.Solo
solo_of Solves = Paper.solves
solo_of (Breaks k) = Paper.breaks k
solo_of Short = Paper.short
