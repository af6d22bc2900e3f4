-- A world that was just opened, and the engine at first. All of this is our own.
use Rattle.std.specs.Prelude.{◌≡◌, false, List, map, [], ◌∷◌}
use Rattle.outside.specs.declared.step.WorldStep.TheVariants.{Opened}
use Rattle.crash_policy.specs.Policies.{AppValue}
use Rattle.outside.specs.Seen.{Seen}
use Rattle.lego_model.specs.Packets.{nothing_held}
use Rattle.net_txn.specs.Net.{NetState}
use Rattle.run_laws.specs.Engine.{Application, Engine}

-- a world that was opened, and nothing more
abbrev pub IsOpened : {Own : Type 0} → Seen Own → Type 0
IsOpened seen = seen.history ≡ Opened ∷ []

abbrev pub net_at_first : NetState
net_at_first = record { views = []; ports = []; log = []; held = nothing_held; xid = 1; moment = 0; kept = []; room = 2; left = [] }

abbrev pub app_at_first : AppValue → Application
app_at_first rule = record { rule = rule; alive = false; rest = []; kept = []; done = 0; failed = 0 }

abbrev pub engine_at_first : List AppValue → Engine
engine_at_first rules = record { net = net_at_first; queue = []; events = 0; apps = map app_at_first rules }
