-- A kind has its own number, and a number its own kind.
use Rattle.std.proofs.Common.{◌≡◌, ℕ, ◌<◌, true, eqb, Option, Some, refl, ap, ◌∙◌, arith}
use Rattle.std.proofs.lemmas.Bool.{eqb-true, cond_both}
use Rattle.app_frames.specs.declared.kind.AppKind.{AppKind}
use Rattle.app_frames.specs.declared.kind.AppKind.TheVariants as app
use Rattle.app_frames.specs.declared.kind.HostKind.{HostKind}
use Rattle.app_frames.specs.declared.kind.HostKind.TheVariants as host
use Rattle.app_frames.specs.declared.frame.EventKind.{EventKind}
use Rattle.app_frames.specs.declared.frame.EventKind.TheVariants as event
use Rattle.app_frames.specs.Kinds.{number_of_app, app_kind_of, number_of_host, host_kind_of, number_of_event, event_kind_of}

pub number_of_app-lt : (kind : AppKind) → number_of_app kind < 256
number_of_app-lt app.Message = omega arith
number_of_app-lt app.Save = omega arith
number_of_app-lt app.Keep = omega arith
number_of_app-lt app.Undo = omega arith
number_of_app-lt app.Done = omega arith
number_of_app-lt app.Ready = omega arith

pub app_kind_of-number_of_app : (kind : AppKind) → app_kind_of (number_of_app kind) ≡ Some kind
unfolding app_kind_of
app_kind_of-number_of_app app.Message = refl
app_kind_of-number_of_app app.Save = refl
app_kind_of-number_of_app app.Keep = refl
app_kind_of-number_of_app app.Undo = refl
app_kind_of-number_of_app app.Done = refl
app_kind_of-number_of_app app.Ready = refl

some_app : (a b : AppKind) → Some a ≡ Some b → a ≡ b
some_app a b e = cc

pub number_of_app-app_kind_of : (number : ℕ) (kind : AppKind) → app_kind_of number ≡ Some kind → number ≡ number_of_app kind
unfolding app_kind_of
number_of_app-app_kind_of number kind =
    let P : Option AppKind → Type 0 = λ o. o ≡ Some kind → number ≡ number_of_app kind in
    let at : (n : ℕ) (k : AppKind) → n ≡ number_of_app k → eqb number n ≡ true → P (Some k) =
    λ n k is t e. eqb-true number n t ∙ is ∙ ap number_of_app (some_app k kind e) in
    cond_both (eqb number 1) _ _ P (at 1 app.Message refl) (λ n1.
    cond_both (eqb number 2) _ _ P (at 2 app.Save refl) (λ n2.
    cond_both (eqb number 3) _ _ P (at 3 app.Keep refl) (λ n3.
    cond_both (eqb number 4) _ _ P (at 4 app.Undo refl) (λ n4.
    cond_both (eqb number 5) _ _ P (at 5 app.Done refl) (λ n5.
    cond_both (eqb number 6) _ _ P (at 6 app.Ready refl) (λ n6.
    (λ e. absurd cc)))))))

pub number_of_host-lt : (kind : HostKind) → number_of_host kind < 256
number_of_host-lt host.Restore = omega arith
number_of_host-lt host.Event = omega arith
number_of_host-lt host.Answer = omega arith

pub host_kind_of-number_of_host : (kind : HostKind) → host_kind_of (number_of_host kind) ≡ Some kind
unfolding host_kind_of
host_kind_of-number_of_host host.Restore = refl
host_kind_of-number_of_host host.Event = refl
host_kind_of-number_of_host host.Answer = refl

some_host : (a b : HostKind) → Some a ≡ Some b → a ≡ b
some_host a b e = cc

pub number_of_host-host_kind_of : (number : ℕ) (kind : HostKind) → host_kind_of number ≡ Some kind → number ≡ number_of_host kind
unfolding host_kind_of
number_of_host-host_kind_of number kind =
    let P : Option HostKind → Type 0 = λ o. o ≡ Some kind → number ≡ number_of_host kind in
    let at : (n : ℕ) (k : HostKind) → n ≡ number_of_host k → eqb number n ≡ true → P (Some k) =
    λ n k is t e. eqb-true number n t ∙ is ∙ ap number_of_host (some_host k kind e) in
    cond_both (eqb number 1) _ _ P (at 1 host.Restore refl) (λ n1.
    cond_both (eqb number 2) _ _ P (at 2 host.Event refl) (λ n2.
    cond_both (eqb number 3) _ _ P (at 3 host.Answer refl) (λ n3.
    (λ e. absurd cc))))

pub number_of_event-lt : (kind : EventKind) → number_of_event kind < 256
number_of_event-lt event.Join = omega arith
number_of_event-lt event.Leave = omega arith
number_of_event-lt event.PacketIn = omega arith
number_of_event-lt event.FlowRemoved = omega arith
number_of_event-lt event.PortStatus = omega arith
number_of_event-lt event.SwitchError = omega arith

pub event_kind_of-number_of_event : (kind : EventKind) → event_kind_of (number_of_event kind) ≡ Some kind
unfolding event_kind_of
event_kind_of-number_of_event event.Join = refl
event_kind_of-number_of_event event.Leave = refl
event_kind_of-number_of_event event.PacketIn = refl
event_kind_of-number_of_event event.FlowRemoved = refl
event_kind_of-number_of_event event.PortStatus = refl
event_kind_of-number_of_event event.SwitchError = refl

some_event : (a b : EventKind) → Some a ≡ Some b → a ≡ b
some_event a b e = cc

pub number_of_event-event_kind_of : (number : ℕ) (kind : EventKind) → event_kind_of number ≡ Some kind → number ≡ number_of_event kind
unfolding event_kind_of
number_of_event-event_kind_of number kind =
    let P : Option EventKind → Type 0 = λ o. o ≡ Some kind → number ≡ number_of_event kind in
    let at : (n : ℕ) (k : EventKind) → n ≡ number_of_event k → eqb number n ≡ true → P (Some k) =
    λ n k is t e. eqb-true number n t ∙ is ∙ ap number_of_event (some_event k kind e) in
    cond_both (eqb number 1) _ _ P (at 1 event.Join refl) (λ n1.
    cond_both (eqb number 2) _ _ P (at 2 event.Leave refl) (λ n2.
    cond_both (eqb number 3) _ _ P (at 3 event.PacketIn refl) (λ n3.
    cond_both (eqb number 4) _ _ P (at 4 event.FlowRemoved refl) (λ n4.
    cond_both (eqb number 5) _ _ P (at 5 event.PortStatus refl) (λ n5.
    cond_both (eqb number 6) _ _ P (at 6 event.SwitchError refl) (λ n6.
    (λ e. absurd cc)))))))
