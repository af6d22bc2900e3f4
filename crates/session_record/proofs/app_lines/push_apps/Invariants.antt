use Rattle.std.proofs.Common.{◌≡◌, ◌++◌, drop, map, string_bytes}
use Rattle.session_record.specs.Deeds.{deeds_in}
use Rattle.session_record.specs.Spelled.{apps_text}
use Rattle.session_record.proofs.app_lines.push_apps.Given as goal

abbrev pub invariant-loop-app : goal.invariant-loop-app
invariant-loop-app l =
    string_bytes l.out ++ apps_text l.app (map (λ s. string_bytes s) (drop l.app l.names)) (deeds_in l.bytes l.deeds)
    ≡ string_bytes l.fn.out ++ apps_text 0 (map (λ s. string_bytes s) l.names) (deeds_in l.bytes l.deeds)
