-- Separate routes to one receiver, found by adding one at a time and re-laying earlier ones.
-- Every server but the receiver has an entry side and a leaving side, and one route at most goes from the one to the other. The search for one
-- route more goes by turns through the entry side and the leaving side of a server, with an allowance that falls at every turn; sides that were
-- seen are not tried again. The flow is changed on the way back from the receiver, one step at a time.
--     rows     the links: row x has the servers that x has a link to
--     inner    the servers that a route may pass: V−F without the receiver
--     last     those of them with a link to the receiver
--     enter    the search from the entry side of x: to its leaving side if no route passes x, else back to the server before it on its route
--     leave    the search from the leaving side of x: to the receiver, to the entry side of a next server, or back to the entry side of x if a
--              route passes x
--     seek     the search from the entry sides of the sources: the flow with one route more; or, not found, the flow as it was and the sides seen
--     flow_to   the flow with k routes, straight ones first, then one sought after the other; or the search that did not find one more
use Rattle.std.specs.Prelude.{Bool, true, false, cond, not, ◌&&◌, List, ℕ, zero, suc, ◌-◌, eqb, ltb, get_or, set, replicate, Option, Some, None, Result, Ok, Err}
use Rattle.sets.specs.Sets.{has, single, union, meet, minus, encode, first_in, size, lowest}
use Rattle.flow.specs.declared.Flow.{Flow}
use Rattle.flow.specs.declared.Searched.{Searched}

-- the k lowest members of s, or all if it has not so many
unfoldable pub lowest_of : (k s : ℕ) → ℕ
lowest_of zero s = 0
lowest_of (suc k) s = union (single (lowest s)) (lowest_of k (minus s (single (lowest s))))

-- flows

-- a route straight to the receiver from each server of s
unfoldable pub straight : ℕ → Flow
straight s = record { used = s; start = s; ends = s; out = replicate 8 0 }

-- x hands on to y
unfoldable pub out_in : Flow → ℕ → ℕ → Bool
out_in φ x y = has (get_or φ.out x 0) y

-- a route starts at x
unfoldable pub with_start : ℕ → Flow → Flow
with_start x φ = record { used = φ.used; start = union φ.start (single x); ends = φ.ends; out = φ.out }

-- a route goes from x to the receiver
unfoldable pub with_end : ℕ → Flow → Flow
with_end x φ = record { used = φ.used; start = φ.start; ends = union φ.ends (single x); out = φ.out }

-- a route passes x
unfoldable pub with_use : ℕ → Flow → Flow
with_use x φ = record { used = union φ.used (single x); start = φ.start; ends = φ.ends; out = φ.out }

unfoldable pub without_use : ℕ → Flow → Flow
without_use x φ = record { used = minus φ.used (single x); start = φ.start; ends = φ.ends; out = φ.out }

-- a route goes from x to y
unfoldable pub with_step : ℕ → ℕ → Flow → Flow
with_step x y φ = record { used = φ.used; start = φ.start; ends = φ.ends; out = set φ.out x (union (get_or φ.out x 0) (single y)) }

unfoldable pub without_step : ℕ → ℕ → Flow → Flow
without_step x y φ = record { used = φ.used; start = φ.start; ends = φ.ends; out = set φ.out x (minus (get_or φ.out x 0) (single y)) }

-- searches

-- what a search answers: whether it found one route more, the flow with it or as it was, and the servers whose entry side and whose leaving side
-- were seen
pub record Sought : Type 0 where
  pub found : Bool
  pub flow : Flow
  pub entered : ℕ
  pub left : ℕ

-- nothing found: the flow as it is, and the sides seen
unfoldable pub lost : Flow → (entered left : ℕ) → Sought
lost φ entered left = record { found = false; flow = φ; entered = entered; left = left }

-- the receiver reached
unfoldable pub reached : Flow → (entered left : ℕ) → Sought
reached φ entered left = record { found = true; flow = φ; entered = entered; left = left }

-- the answer that the code's answer stands for
abbrev pub sought_of : Result Searched Searched → Sought
sought_of (Ok s) = reached s.flow s.entered s.left
sought_of (Err s) = lost s.flow s.entered s.left

-- what was found, with one step more
unfoldable pub changed : (Flow → Flow) → Sought → Sought
changed g s = cond s.found (reached (g s.flow) s.entered s.left) s

-- the lowest server from which a route goes to x; 8 if there is none
unfoldable pub feeder : Flow → ℕ → ℕ
feeder φ x = first_in 8 0 (λ (p : ℕ). out_in φ p x)

-- the server to whose leaving side the entry side of x leads; 8 if it leads nowhere, as x is where its route starts
unfoldable pub behind : Flow → ℕ → ℕ
behind φ x = cond (has φ.used x) (feeder φ x) x

-- a server by its number, which is below 8; none at another number
abbrev pub server_at : ℕ → Option ℕ
server_at q = cond (ltb q 8) (Some q) None

-- the step from the entry side of x to the leaving side of q: a route passes x, or no longer goes from q to x
unfoldable pub step_in : ℕ → ℕ → Flow → Flow
step_in x q φ = cond (eqb q x) (with_use x φ) (without_step q x φ)

-- the step from the leaving side of x to the entry side of y: a route goes from x to y, or no longer passes x
unfoldable pub step_out : ℕ → ℕ → Flow → Flow
step_out x y φ = cond (eqb y x) (without_use x φ) (with_step x y φ)

-- the servers of `choices` among the k from y on, tried in turn where their entry side is not seen, until one of them is found
unfoldable pub tries : (ℕ → ℕ → ℕ → Sought) → (choices : ℕ) → (k y : ℕ) → Sought → Sought
tries try choices zero y s = s
tries try choices (suc k) y s =
    let t = cond (has choices y && not (has s.entered y)) (try y s.entered s.left) s in
    cond t.found t (tries try choices k (suc y) t)

-- the servers to whose entry side the leaving side of x leads
unfoldable pub ahead : List ℕ → ℕ → Flow → ℕ → ℕ
ahead rows inner φ x = union (minus (meet (get_or rows x 0) inner) (get_or φ.out x 0)) (meet φ.used (single x))

unfoldable mutual
  pub enter : (allowance : ℕ) → List ℕ → (inner last : ℕ) → Flow → (entered left : ℕ) → ℕ → Sought
  enter zero rows inner last φ entered left x = lost φ entered left
  enter (suc k) rows inner last φ entered left x =
      let q = behind φ x in
      cond (ltb q 8 && not (has left q)) (changed (step_in x q) (leave k rows inner last φ (union entered (single x)) left q)) (lost φ (union entered (single x)) left)

  pub leave : (allowance : ℕ) → List ℕ → (inner last : ℕ) → Flow → (entered left : ℕ) → ℕ → Sought
  leave zero rows inner last φ entered left x = lost φ entered left
  leave (suc k) rows inner last φ entered left x =
      cond (has last x && not (has φ.ends x)) (reached (with_end x φ) entered (union left (single x)))
      (tries (λ (y e l : ℕ). changed (step_out x y) (enter k rows inner last φ e l y)) (ahead rows inner φ x) 8 0 (lost φ entered (union left (single x))))

-- sixteen sides, none twice
abbrev pub sides : ℕ
sides = 17

unfoldable pub seek : List ℕ → (inner last sources : ℕ) → Flow → Sought
seek rows inner last sources φ = tries (λ (x e l : ℕ). changed (with_start x) (enter sides rows inner last φ e l x)) sources 8 0 (lost φ 0 0)

-- k routes more, one after the other
unfoldable pub seek_all : List ℕ → (inner last sources k : ℕ) → Sought → Sought
seek_all rows inner last sources zero s = s
seek_all rows inner last sources (suc k) s =
    let t = seek rows inner last sources s.flow in
    cond t.found (seek_all rows inner last sources k t) t

-- those of `near` that a route may pass before r: the other servers of W; none if r is not in W itself
unfoldable pub last_in : (near W r : ℕ) → ℕ
last_in near W r = cond (has W r) (meet (minus W (single r)) near) 0

-- the servers with a link to r
unfoldable pub linking : List ℕ → ℕ → ℕ
linking rows r = encode 8 (λ (x : ℕ). has (get_or rows x 0) r)

abbrev pub linked_to : List ℕ → (W r : ℕ) → ℕ
linked_to rows W r = last_in (linking rows r) W r

-- k routes in W from the sources to r, where a source is not r and `near` are the servers with a link to r: first straight from the lowest sources
-- that are near, then by the search
unfoldable pub flow_by : List ℕ → (near W sources r k : ℕ) → Sought
flow_by rows near W sources r k =
    let inner = minus W (single r) in
    let last = last_in near W r in
    let starts = meet sources inner in
    let first = lowest_of k (meet starts last) in
    seek_all rows inner last starts (k - size first) (reached (straight first) 0 0)

abbrev pub flow_to : List ℕ → (W sources r k : ℕ) → Sought
flow_to rows W sources r k = flow_by rows (linking rows r) W sources r k
