use Rattle.std.proofs.Common.{ap, ℕ, ◌+◌, sym, ◌∙◌, subst, arith}
use Rattle.net.specs.declared.Entry.TheVariants.{Link}
use Rattle.tree.specs.Planted.{graph_in, up_in}
use Rattle.table.proofs.Follow.{nearer}
use Rattle.table.proofs.Trees.{near, few}
use Rattle.table.proofs.Marking.{Going, there_of, going_start, going_here, going_met, going_on}
use Rattle.table.proofs.sweep.Onward.walk.Goals as goal

pub loop-link-init : goal.loop-link-init
loop-link-init c =
    subst (λ (l : ℕ). Going (graph_in c.args.self.now.swept.tree.now) (up_in c.args.self.now.swept.tree.now) c.args.s c.args.p c.args.met.now c.args.met.now (l + c.args.s)) (sym c.links.ensures)
    (going_start (graph_in c.args.self.now.swept.tree.now) (up_in c.args.self.now.swept.tree.now) c.args.s c.args.p c.requires.door c.requires.place (few c.args.self.now.swept.tree.now) (near c.args.self.now.swept.tree.now c.args.s c.args.p c.requires.door c.requires.place) c.args.met.now)

pub bounds-met-k : goal.bounds-met-k
bounds-met-k c = there_of (graph_in c.args.self.now.swept.tree.now) (up_in c.args.self.now.swept.tree.now) c.args.p c.loop-link.c c.from-k.result c.loop-link.met (sym (c.row.ensures.cells c.args.p c.requires.place) ∙ c.in-Link.is ∙ ap (λ (i : ℕ). Link i) (sym c.from-k.ensures)) (c.loop-link.auto.met ∙ c.requires.size)

pub bounds-met-k-in-Link : goal.bounds-met-k-in-Link
bounds-met-k-in-Link c = there_of (graph_in c.args.self.now.swept.tree.now) (up_in c.args.self.now.swept.tree.now) c.args.p c.loop-link.c c.from-k.result c.loop-link.met (sym (c.row.ensures.cells c.args.p c.requires.place) ∙ c.in-Link.is ∙ ap (λ (i : ℕ). Link i) (sym c.from-k.ensures)) (c.loop-link.auto.met ∙ c.requires.size)

pub bounds-met-k-in-Link-2 : goal.bounds-met-k-in-Link-2
bounds-met-k-in-Link-2 c = there_of (graph_in c.args.self.now.swept.tree.now) (up_in c.args.self.now.swept.tree.now) c.args.p c.loop-link.c c.from-k.result c.loop-link.met (sym (c.row.ensures.cells c.args.p c.requires.place) ∙ c.in-Link.is ∙ ap (λ (i : ℕ). Link i) (sym c.from-k.ensures)) (c.loop-link.auto.met ∙ c.requires.size)

pub returns-then-has : goal.returns-then-has
returns-then-has c =
    going_met (graph_in c.args.self.now.swept.tree.now) (up_in c.args.self.now.swept.tree.now) c.args.s c.args.p c.requires.door c.requires.place (few c.args.self.now.swept.tree.now) (near c.args.self.now.swept.tree.now c.args.s c.args.p c.requires.door c.requires.place) c.args.met.now c.loop-link.met c.loop-link.c c.from-k.result c.loop-link.invariant (sym (c.row.ensures.cells c.args.p c.requires.place) ∙ c.in-Link.is ∙ ap (λ (i : ℕ). Link i) (sym c.from-k.ensures)) (sym c.has.ensures ∙ c.if-has.true)

pub loop-link-smaller : goal.loop-link-smaller
loop-link-smaller c =
    let q = nearer (graph_in c.args.self.now.swept.tree.now) (up_in c.args.self.now.swept.tree.now) c.args.p c.loop-link.c c.from-k.result (sym (c.row.ensures.cells c.args.p c.requires.place) ∙ c.in-Link.is ∙ ap (λ (i : ℕ). Link i) (sym c.from-k.ensures)) in
    omega arith

pub loop-link-preserved : goal.loop-link-preserved
loop-link-preserved c =
    going_on (graph_in c.args.self.now.swept.tree.now) (up_in c.args.self.now.swept.tree.now) c.args.s c.args.p c.requires.door c.requires.place (few c.args.self.now.swept.tree.now) (near c.args.self.now.swept.tree.now c.args.s c.args.p c.requires.door c.requires.place) c.args.met.now c.loop-link.met c.loop-link.c c.from-k.result c.loop-link.invariant (sym (c.row.ensures.cells c.args.p c.requires.place) ∙ c.in-Link.is ∙ ap (λ (i : ℕ). Link i) (sym c.from-k.ensures)) (there_of (graph_in c.args.self.now.swept.tree.now) (up_in c.args.self.now.swept.tree.now) c.args.p c.loop-link.c c.from-k.result c.loop-link.met (sym (c.row.ensures.cells c.args.p c.requires.place) ∙ c.in-Link.is ∙ ap (λ (i : ℕ). Link i) (sym c.from-k.ensures)) (c.loop-link.auto.met ∙ c.requires.size))

pub returns : goal.returns
returns c =
    going_here (graph_in c.args.self.now.swept.tree.now) (up_in c.args.self.now.swept.tree.now) c.args.s c.args.p c.requires.door c.requires.place (few c.args.self.now.swept.tree.now) (near c.args.self.now.swept.tree.now c.args.s c.args.p c.requires.door c.requires.place) c.args.met.now c.loop-link.met c.loop-link.c c.loop-link.invariant (sym (c.row.ensures.cells c.args.p c.requires.place) ∙ c.in_default.is)
