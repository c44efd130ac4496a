-- `run::main` meets the needs of what it calls.
use mathlib.Core.Path.{sym, ◌∙◌}
use Rattle.listing_start.proofs.CallLaws.{start-accepted}
use Rattle.run.proofs.main.Goals as goal

pub follow-requires : goal.follow-requires
follow-requires c = start-accepted _ (sym c.start.ensures ∙ c.in-Ok.is)
