mod Forms
mod Fitting
mod Nodes
mod Agrees
