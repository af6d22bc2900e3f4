use Rattle.std.proofs.Common.{◌≡◌, ◌==◌, map, drop}
use Rattle.std.specs.List.{list_any}
use Rattle.session_text.specs.SessionView.{view_declared}
use Rattle.session_text.proofs.text_so_far.is_among.Given as goal

abbrev pub invariant-loop-switch : goal.invariant-loop-switch
invariant-loop-switch l =
    list_any (λ d. d.0 == l.dpid) (map view_declared (drop l.switch-index l.switches)) ≡ list_any (λ d. d.0 == l.dpid) (map view_declared l.switches)
