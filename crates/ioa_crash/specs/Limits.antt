-- How far the rewriting takes an automaton past the limits of sources.
use Rattle.ioa_value.specs.declared.limits.Limits.{Limits}
use Rattle.ioa_crash.specs.declared.limits.TheConstants.{COMPONENT_LIMITS}

-- what each component of a composition keeps within
abbrev pub component_limits : Limits
component_limits = COMPONENT_LIMITS
