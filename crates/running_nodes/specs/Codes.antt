-- How seats are told apart: by the codes of their parts.
use Rattle.std.specs.Prelude.{◌≡◌, ◌⊎◌, ℕ, List, Bool, refl}
use Rattle.std.specs.Coded.{Coded, code_by, coded×, coded⊎, coded_ℕ, coded_bool, coded_list, coded_option}
use Rattle.std.specs.declared.option.Option.{Option}
use Rattle.std.proofs.Common.{inl, inr}
use Rattle.config_check.specs.Checked.{Checked}
use Rattle.config_check.specs.contracts.valid.Valid as valid
use Rattle.ov_types.specs.contracts.rows.NodeId as nodes
use Rattle.ov_types.specs.declared.rows.NodeId.{NodeId}
use Rattle.agent_node.specs.contracts.plan.AgentPlan as agents
use Rattle.agent_node.specs.declared.plan.AgentPlan.{AgentPlan}
use Rattle.node_model.specs.Codes.{coded_post}
use Rattle.node_model.specs.Step.{Post}
use Rattle.running_nodes.specs.MachineModel.Setup.{Name}
use Rattle.running_nodes.specs.Controls.{Controls}
use Rattle.running_nodes.specs.Seats.{Who, Configuring, Controlling, Forwarding, Seat}
use Rattle.running_nodes.specs.Halves.{Inner, Outer, Standing, seated}

-- ---- who is there
abbrev pub coded_controls : Coded Controls
coded_controls =
    code_by (NodeId × (ℕ × (List NodeId × List (Option NodeId))))
    (coded× nodes.the_row.coded
    (coded× coded_ℕ (coded× (coded_list nodes.the_row.coded) (coded_list (coded_option nodes.the_row.coded)))))
    (λ c. (c.me, (c.asn, (c.peers, c.agents))))
    (λ c. record { me = c.0; asn = c.1.0; peers = c.1.1.0; agents = c.1.1.1 }) (λ _. refl)

abbrev pub WhoCode : Type 0
WhoCode = Checked ⊎ (Controls ⊎ AgentPlan)

abbrev pub plan_of : Who → WhoCode
plan_of (Configuring x) = inl x
plan_of (Controlling c) = inr (inl c)
plan_of (Forwarding plan) = inr (inr plan)

abbrev pub who_of : WhoCode → Who
who_of (inl x) = Configuring x
who_of (inr (inl c)) = Controlling c
who_of (inr (inr plan)) = Forwarding plan

pub plans_tell : (who : Who) → who_of (plan_of who) ≡ who
plans_tell (Configuring x) = refl
plans_tell (Controlling c) = refl
plans_tell (Forwarding plan) = refl

abbrev pub coded_who : Coded Who
coded_who =
    code_by WhoCode (coded⊎ valid.the_row.coded (coded⊎ coded_controls agents.the_row.coded))
    plan_of who_of plans_tell

-- ---- halves
-- octets, or breaks, of each session
abbrev pub Lists : Type 0
Lists = List (List ℕ)

abbrev pub coded_lists : Coded Lists
coded_lists = coded_list (coded_list coded_ℕ)

abbrev pub coded_inner : Coded Inner
coded_inner =
    code_by (Who × (List Post × Lists)) (coded× coded_who (coded× (coded_list coded_post) coded_lists))
    (λ n. (n.who, (n.posts, n.kept))) (λ c. record { who = c.0; posts = c.1.0; kept = c.1.1 }) (λ _. refl)

abbrev pub LinkLists : Type 0
LinkLists = List Lists

abbrev pub coded_links : Coded LinkLists
coded_links = coded_list coded_lists

abbrev pub coded_names : Coded (List (Option Name))
coded_names = coded_list (coded_option (coded_list coded_ℕ))

abbrev pub coded_outer : Coded Outer
coded_outer =
    code_by (Name × (List (Option Name) × (LinkLists × (Lists × List Bool))))
    (coded× (coded_list coded_ℕ) (coded× coded_names (coded× coded_links (coded× coded_lists (coded_list coded_bool)))))
    (λ o. (o.name, (o.others, (o.links, (o.breaks, o.notices)))))
    (λ c. record { name = c.0; others = c.1.0; links = c.1.1.0; breaks = c.1.1.1.0; notices = c.1.1.1.1 }) (λ _. refl)

-- ---- seats
abbrev pub coded_seat : Coded Seat
coded_seat =
    code_by (Inner × (LinkLists × (Lists × List Bool)))
    (coded× coded_inner (coded× coded_links (coded× coded_lists (coded_list coded_bool))))
    (λ n. (record { who = n.who; posts = n.posts; kept = n.kept }, (n.links, (n.breaks, n.notices))))
    (λ c. seated c.0 c.1.0 c.1.1.0 c.1.1.1) (λ _. refl)

abbrev pub coded_standing : Coded Standing
coded_standing =
    code_by (List Seat × Bool) (coded× (coded_list coded_seat) coded_bool)
    (λ s. (s.seats, s.failed)) (λ c. record { seats = c.0; failed = c.1 }) (λ _. refl)
